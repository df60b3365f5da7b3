use Rattle.std.proofs.Common.{ℕ, ◌<◌, length, get_or, refl, subst, arith}
use Rattle.std.proofs.lemmas.List.{get_or_default, take_all}
use Rattle.dpl_spec_split.specs.declared.Zone.{Zone}
use Rattle.dpl_sides.specs.Standing.{StandsFrom}
use Rattle.dpl_sides.specs.Pieces.{no_zone, parts_in}
use Rattle.dpl_sides.proofs.StandingLaws.{noted-kept, noted-set}
use Rattle.dpl_sides.proofs.standing.note_beside.Goals as goal
use Rattle.dpl_sides.proofs.standing.note_beside.Goals.{in-Some, in_default}

pub loop-number-init : goal.loop-number-init
loop-number-init c = record { each = refl; noted = λ j (k, k_in, is). absurd (omega (arith, k_in)); kept = λ j none. refl }

pub loop-number-preserved : goal.loop-number-preserved
loop-number-preserved c =
    let stands : Zone → ℕ → Type 0 = StandsFrom c.args.side (parts_in c.args.pieces.now) c.args.from in
    let at = c.loop-number in
    let number : ℕ = get_or c.args.own.now at.number-index 0 in
    let known : number < length c.args.zones.now = c.requires.known at.number-index 0 c.loop-number-test.true in
    elim c.match-beside.branch [
      | in-Some w ↦ noted-set stands c.args.zones.now c.args.own.now c.args.noted.now at.noted c.match-beside.noted at.number-index c.loop-number-test.true at.invariant
          w.in-Some.piece (omega (arith, known, at.invariant.each, c.requires.each))
          (subst (λ z. stands z w.in-Some.piece) (get_or_default c.args.zones.now number _ no_zone known) w.in-Some.ensures.some) w.noted-is
      | in_default w ↦ noted-kept stands c.args.zones.now c.args.own.now c.args.noted.now at.noted c.match-beside.noted at.number-index c.loop-number-test.true at.invariant
          (λ k here. w.in_default.ensures.none refl k (subst (λ z. stands z k) (get_or_default c.args.zones.now number no_zone _ known) here)) w.noted-is
    ]

pub returns : goal.returns
returns c = rw (take_all c.loop-number.number-index c.args.own.now c.loop-number-test.false) at c.loop-number.invariant
