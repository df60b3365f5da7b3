use Rattle.std.proofs.Common.{map}
use Rattle.std.proofs.lemmas.Result.{IfOk-from_err}
use Rattle.dpl_spec_split.specs.Loops.{farthest}
use Rattle.dpl_slabs.proofs.RowLaws.{within-slabs}
use Rattle.dpl_orient.specs.Masks.{is_second}
use Rattle.dpl_masks.proofs.SheetLaws.{inked-owned, inked-owners, mask-slabs}
use Rattle.dpl_masks.proofs.painting.mask_of.Goals as goal

pub add_uncut-requires-clause-owners : goal.add_uncut-requires-clause-owners
add_uncut-requires-clause-owners c = inked-owners c.args.inked.now.cut c.args.colours.now c.args.inked.now.inks.items c.requires

pub add_uncut-requires-clause-owned : goal.add_uncut-requires-clause-owned
add_uncut-requires-clause-owned c = rw c.as_slice-inks.ensures.value (inked-owned c.args.inked.now.cut c.args.colours.now c.args.inked.now.inks.items c.requires)

pub add_uncut-requires-clause-sheet : goal.add_uncut-requires-clause-sheet
add_uncut-requires-clause-sheet c = rw c.as_slice-inks.ensures.value c.in_ok-rects.ensures

pub returns-clause-mask : goal.returns-clause-mask
returns-clause-mask c =
    let cut = c.args.inked.now.cut in
    mask-slabs cut.parts cut.owners.items cut.zones.items cut.sides.items cut.wholes.items (map is_second c.args.colours.now) _
    (is_second c.args.letter) _ _ c.in_ok-add_wholes.ensures c.of_scattered.ensures

pub returns-clause-within : goal.returns-clause-within
returns-clause-within c = within-slabs farthest _ _ c.in_ok-add_wholes.ensures.sheet.within c.of_scattered.ensures

pub returns-in_err-rest-clause-mask : goal.returns-in_err-rest-clause-mask
returns-in_err-rest-clause-mask c = IfOk-from_err _ _ c.from_residual.ensures.0

pub returns-in_err-rest-clause-within : goal.returns-in_err-rest-clause-within
returns-in_err-rest-clause-within c = IfOk-from_err _ _ c.from_residual.ensures.0

pub returns-in_err-rects-clause-mask : goal.returns-in_err-rects-clause-mask
returns-in_err-rects-clause-mask c = IfOk-from_err _ _ c.from_residual-in_err-rects.ensures.0

pub returns-in_err-rects-clause-within : goal.returns-in_err-rects-clause-within
returns-in_err-rects-clause-within c = IfOk-from_err _ _ c.from_residual-in_err-rects.ensures.0

pub returns-in_err-add_uncut-clause-mask : goal.returns-in_err-add_uncut-clause-mask
returns-in_err-add_uncut-clause-mask c = IfOk-from_err _ _ c.from_residual-in_err-add_uncut.ensures.0

pub returns-in_err-add_uncut-clause-within : goal.returns-in_err-add_uncut-clause-within
returns-in_err-add_uncut-clause-within c = IfOk-from_err _ _ c.from_residual-in_err-add_uncut.ensures.0

pub returns-in_err-add_wholes-clause-mask : goal.returns-in_err-add_wholes-clause-mask
returns-in_err-add_wholes-clause-mask c = IfOk-from_err _ _ c.from_residual-in_err-add_wholes.ensures.0

pub returns-in_err-add_wholes-clause-within : goal.returns-in_err-add_wholes-clause-within
returns-in_err-add_wholes-clause-within c = IfOk-from_err _ _ c.from_residual-in_err-add_wholes.ensures.0

pub rest_of-requires : goal.rest_of-requires
rest_of-requires c = rw c.as_slice-inks.ensures.value c.requires

pub united-requires-clause-inked : goal.united-requires-clause-inked
united-requires-clause-inked c = c.requires

pub united-requires-clause-rest : goal.united-requires-clause-rest
united-requires-clause-rest c = rw (c.deref.ensures.value, ← c.as_slice-inks.ensures.value) c.in_ok-rest.ensures.rest

pub united-requires-clause-rise : goal.united-requires-clause-rise
united-requires-clause-rise c = rw c.deref.ensures.value c.in_ok-rest.ensures.rise

pub add_uncut-requires-clause-each : goal.add_uncut-requires-clause-each
add_uncut-requires-clause-each c = c.requires.each

pub add_wholes-requires : goal.add_wholes-requires
add_wholes-requires c = record { sheet = c.in_ok-add_uncut.ensures }
