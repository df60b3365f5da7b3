use Rattle.std.proofs.lemmas.Result.{IfOk-from_err}
use Rattle.dpl_spec_split.specs.Squares.{Covers}
use Rattle.dpl_zone.proofs.Corners.{one-per_corner, solid-all, zones-all}
use Rattle.dpl_zone.proofs.Once.{both-ok}
use Rattle.dpl_zone.proofs.PartZones.{flat-solid, kept-all, upright-solid}
use Rattle.dpl_zone.proofs.all.zones_among.Goals as goal

pub joined-requires-clause-flat : goal.joined-requires-clause-flat
joined-requires-clause-flat c = flat-solid c.args.found.spacing c.args.found.overlap c.args.parts.now c.requires.some c.items.ensures.parts _ c.requires.horizontal

pub joined-requires-clause-upright : goal.joined-requires-clause-upright
joined-requires-clause-upright c = upright-solid c.args.found.spacing c.args.found.overlap c.args.parts.now c.requires.some c.items.ensures.parts _ c.requires.vertical

pub each_once-requires-clause-one : goal.each_once-requires-clause-one
each_once-requires-clause-one c =
    let f = c.args.found in
    let kept = kept-all f.spacing f.overlap c.args.parts.now f.horizontal.items f.vertical.items _ c.requires.horizontal c.requires.vertical c.in_ok-kept.ensures in
    rw c.deref.ensures.value (one-per_corner f.spacing f.overlap c.args.parts.now c.requires.some c.items.ensures.parts.apart _ _ c.sort_zones.ensures.same kept)

pub unmarked-requires-clause-solid : goal.unmarked-requires-clause-solid
unmarked-requires-clause-solid c =
    let f = c.args.found in
    let kept = kept-all f.spacing f.overlap c.args.parts.now f.horizontal.items f.vertical.items _ c.requires.horizontal c.requires.vertical c.in_ok-kept.ensures in
    solid-all f.spacing f.overlap c.args.parts.now c.requires.some c.items.ensures.parts.apart _ _ c.in_ok-all.all.items c.sort_zones.ensures.same kept
    (rw c.deref.ensures.value at c.in_ok-all.ensures.members)

pub returns : goal.returns
returns c =
    let f = c.args.found in
    let kept = kept-all f.spacing f.overlap c.args.parts.now f.horizontal.items f.vertical.items _ c.requires.horizontal c.requires.vertical c.in_ok-kept.ensures in
    both-ok c.unmarked.result _ _ _ c.unmarked.ensures.ordered c.unmarked.ensures.members
    (λ v ordered free. zones-all f.spacing f.overlap c.args.parts.now c.requires.some c.items.ensures.parts.apart _ _ c.in_ok-all.all.items v.items
    (Covers c.args.marked.now) c.sort_zones.ensures.same kept (rw c.deref.ensures.value at c.in_ok-all.ensures.members) ordered free)

pub returns-in_err-kept : goal.returns-in_err-kept
returns-in_err-kept c = IfOk-from_err _ _ c.from_residual.ensures.0

pub returns-in_err-all : goal.returns-in_err-all
returns-in_err-all c = IfOk-from_err _ _ c.from_residual-in_err-all.ensures.0
