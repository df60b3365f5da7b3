use Rattle.std.specs.Prelude.{pos}
use Rattle.std.proofs.Common.{length, rules}
use Rattle.std.proofs.lemmas.Bool.{false≢true}
use Rattle.dpl_cert.specs.declared.cert.PlaceLine.{PlaceLine}
use Rattle.dpl_cert.specs.declared.cert.PlaceLine.TheVariants.{Piece}
use Rattle.dpl_cert.specs.declared.cert.NearLine.{NearLine}
use Rattle.dpl_cert.specs.declared.cert.NearLine.TheVariants.{Pair}
use Rattle.dpl_spec_verdict.specs.Conflicts.{IsBadPlace, place_at}
use Rattle.dpl_check.specs.Anchors.{marks_of}
use Rattle.dpl_check.specs.Places.{bare}
use Rattle.dpl_check.proofs.Finding.{none-more, first-found, none-found}
use Rattle.dpl_check.proofs.Placing.{good-place, named-below, noted-next, stood-bad, unjoined-bad, unnamed-bad}
use Rattle.dpl_check.proofs.place.first_wrong.Goals as goal

abbrev no_place : PlaceLine
no_place = Piece 0 (record { x = pos 0; y = pos 0 })

abbrev no_line : NearLine
no_line = Pair (record { x = pos 0; y = pos 0 }) (record { x = pos 0; y = pos 0 })

pub has-requires : goal.has-requires
has-requires c = rw c.loop-k.invariant.noted.each (named-below (marks_of c.args.marks.now) c.args.cut.now.pieces (place_at c.args.cycle.now c.loop-k.k) (c.is_named.ensures.0 (search rules)))

pub add-requires : goal.add-requires
add-requires c = rw c.loop-k.invariant.noted.each (named-below (marks_of c.args.marks.now) c.args.cut.now.pieces (place_at c.args.cycle.now c.loop-k.k) (c.is_named.ensures.0 (search rules)))

pub returns-then-not-is_named : goal.returns-then-not-is_named
returns-then-not-is_named c =
    let place = place_at c.args.cycle.now c.loop-k.k in
    first-found (IsBadPlace (marks_of c.args.marks.now) c.args.spacing (bare c.args.cut.now.pieces) c.args.cycle.now c.args.near.now) c.args.cycle.now c.loop-k.k place (search rules) (search rules)
    (unnamed-bad (marks_of c.args.marks.now) c.args.spacing c.args.cut.now.pieces c.args.cycle.now c.args.near.now c.loop-k.k (search rules) place no_line
    (λ named. false≢true (c.if-not-is_named.ensures.1 named))) c.loop-k.invariant.good

pub returns-then-has : goal.returns-then-has
returns-then-has c =
    let place = place_at c.args.cycle.now c.loop-k.k in
    first-found (IsBadPlace (marks_of c.args.marks.now) c.args.spacing (bare c.args.cut.now.pieces) c.args.cycle.now c.args.near.now) c.args.cycle.now c.loop-k.k place (search rules) (search rules)
    (stood-bad (marks_of c.args.marks.now) c.args.spacing c.args.cut.now.pieces c.args.cycle.now c.args.near.now c.loop-k.k (search rules) place no_line
    (length c.args.cut.now.pieces.parts) c.loop-k.stood c.loop-k.invariant.noted (search rules)) c.loop-k.invariant.good

pub returns-then-not-are_joined : goal.returns-then-not-are_joined
returns-then-not-are_joined c =
    let place = place_at c.args.cycle.now c.loop-k.k in
    first-found (IsBadPlace (marks_of c.args.marks.now) c.args.spacing (bare c.args.cut.now.pieces) c.args.cycle.now c.args.near.now) c.args.cycle.now c.loop-k.k place (search rules) (search rules)
    (unjoined-bad (marks_of c.args.marks.now) c.args.spacing c.args.cut.now.pieces c.args.cycle.now c.args.near.now c.loop-k.k (search rules) place no_line
    (λ joined. false≢true (c.if-not-are_joined.ensures.1 joined))) c.loop-k.invariant.good

pub loop-k-preserved : goal.loop-k-preserved
loop-k-preserved c =
    let place = place_at c.args.cycle.now c.loop-k.k in
    record {
      good = none-more (IsBadPlace (marks_of c.args.marks.now) c.args.spacing (bare c.args.cut.now.pieces) c.args.cycle.now c.args.near.now)
          c.args.cycle.now c.loop-k.k place (search rules) (search rules)
          (good-place (marks_of c.args.marks.now) c.args.spacing c.args.cut.now.pieces c.args.cycle.now c.args.near.now c.loop-k.k (search rules) place no_line
          (length c.args.cut.now.pieces.parts) c.loop-k.stood c.loop-k.invariant.noted (c.is_named.ensures.0 (search rules)) (search rules)
          (c.are_joined.ensures.0 (search rules))) c.loop-k.invariant.good;
      noted = noted-next (length c.args.cut.now.pieces.parts) c.args.cycle.now c.loop-k.k c.loop-k.stood _ c.loop-k.invariant.noted c.add.ensures;
    }

pub returns : goal.returns
returns c = none-found (IsBadPlace (marks_of c.args.marks.now) c.args.spacing (bare c.args.cut.now.pieces) c.args.cycle.now c.args.near.now)
    c.args.cycle.now c.loop-k.k (search rules) no_place c.loop-k.invariant.good
