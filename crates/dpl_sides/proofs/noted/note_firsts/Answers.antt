use Rattle.std.proofs.Common.{◌≡◌, ◌<◌, length, map, sym, subst, arith}
use Rattle.std.specs.List.{All}
use Rattle.std.proofs.lemmas.Result.{IfOk-from_err}
use Rattle.dpl_sides.specs.declared.corner.Kind.TheVariants.{LowerLeft, LowerRight, UpperLeft}
use Rattle.dpl_sides.specs.Corners.{slab_corner}
use Rattle.dpl_sides.proofs.CornerLaws.{slabs-cornered, zone-numbers}
use Rattle.dpl_sides.proofs.Noting.{sides-noted}
use Rattle.dpl_sides.proofs.noted.note_firsts.Goals as goal

pub note_all-requires-clause-numbers : goal.note_all-requires-clause-numbers
note_all-requires-clause-numbers c =
    rw c.deref.ensures.value
    (zone-numbers LowerLeft c.args.zones.now c.args.own.now _ _ (subst (λ n. All (λ j. j < n) c.args.own.now) (sym c.requires.each) c.requires.known)
    c.in_ok-zone_corners.ensures.members)

pub note_all-requires-2-clause-numbers : goal.note_all-requires-2-clause-numbers
note_all-requires-2-clause-numbers c =
    let each : length c.args.zones.now ≡ length c.note_all.new.noted = omega (arith, c.note_all.ensures.each, c.requires.each) in
    rw c.deref-2.ensures.value
    (zone-numbers LowerLeft c.args.zones.now c.args.own.now _ _ (subst (λ n. All (λ j. j < n) c.args.own.now) each c.requires.known)
    c.in_ok-zone_corners.ensures.members)

pub returns : goal.returns
returns c = λ parts from slabs.
    let known : All (λ j. j < length c.args.noted.now) c.args.own.now = subst (λ n. All (λ j. j < n) c.args.own.now) (sym c.requires.each) c.requires.known in
    let first = rw c.deref.ensures.value at c.note_all.ensures in
    let second = rw c.deref-2.ensures.value at c.note_all-2.ensures in
    sides-noted c.args.zones.now c.args.own.now parts from LowerLeft LowerRight LowerLeft UpperLeft (map (slab_corner LowerRight) c.args.slabs.now) (map (slab_corner UpperLeft) c.args.slabs.now)
    c.zone_corners.new.corners.items c.zone_corners.new.corners.items c.args.noted.now c.note_all.new.noted c.note_all-2.new.noted
    c.in_ok-zone_corners.ensures.members c.in_ok-zone_corners.ensures.members (slabs-cornered parts from LowerRight (length parts) c.args.slabs.now slabs)
    (slabs-cornered parts from UpperLeft (length parts) c.args.slabs.now slabs) known first second

pub returns-in_err-zone_corners : goal.returns-in_err-zone_corners
returns-in_err-zone_corners c = IfOk-from_err _ _ c.from_residual.ensures.0
