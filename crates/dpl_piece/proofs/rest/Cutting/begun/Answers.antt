use Rattle.std.proofs.Common.{◌<◌, ap, ◌∙◌, length, arith}
use Rattle.std.specs.List.{All, flat_map}
use Rattle.std.specs.Vec.Iter.{into_iter_items}
use Rattle.std.proofs.lemmas.List.Elements.{All-tail}
use Rattle.dpl_sides.specs.Sided.{numbers_in}
use Rattle.dpl_piece.specs.declared.pile.Pile.{Pile}
use Rattle.dpl_piece.proofs.Piles.{begun-pile, flat-all, flat-next}
use Rattle.dpl_piece.proofs.rest.Cutting.begun.Goals as goal

pub loop-pile-preserved : goal.loop-pile-preserved
loop-pile-preserved c =
    let at = c.loop-pile in
    let steps = c.in-Some.ensures.steps.0 in
    let left = at.invariant.left in
    let gone = c.in-Some.ensures.steps.1 in
    let short = ap length steps in
    let adds = c.in_ok-add_pile.ensures in
    record {
      left = omega (arith, left, gone, short);
      made = flat-next (λ b. let u : Pile = b in u.features.items) (flat_map (λ b. let u : Pile = b in u.features.items) c.args.piles.items) at.cutting.made.items _
          (into_iter_items at.pile-iterator) (into_iter_items c.next.new.self) c.in-Some.pile at.invariant.made steps adds.made;
      known = All-tail (λ b. All (λ j. j < length c.args.zones.now) (numbers_in b.zones.items)) c.in-Some.pile _ (rw steps at at.invariant.known);
      firsts = adds.firsts.each ∙ at.invariant.firsts;
      seconds = adds.seconds.each ∙ at.invariant.seconds;
      begun = λ features given theirs all. (
          let (begun, made, below) = at.invariant.begun features given theirs all in
          begun-pile features c.args.zones.now given theirs at.cutting _ c.in-Some.pile _ begun (rw steps at made) (rw steps at below) adds);
    }

pub returns-clause-made : goal.returns-clause-made
returns-clause-made c =
    let at = c.loop-pile in
    let left = at.invariant.left in
    let none = c.in-None.ensures.steps.0 in
    flat-all (λ b. let u : Pile = b in u.features.items) (flat_map (λ b. let u : Pile = b in u.features.items) c.args.piles.items) at.cutting.made.items (into_iter_items at.pile-iterator) at.invariant.made
    (omega (arith, left, none))

pub returns-clause-begun : goal.returns-clause-begun
returns-clause-begun c = λ features given theirs all. (c.loop-pile.invariant.begun features given theirs all).0
