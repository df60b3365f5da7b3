use Rattle.std.proofs.Common.{◌≡◌, ◌<◌, length, get_or, map, sym}
use Rattle.std.proofs.lemmas.Result.{err_from_is_err_and}
use Rattle.dpl_orient.specs.Masks.{is_second}
use Rattle.dpl_masks.proofs.SheetLaws.{sheet-whole}
use Rattle.dpl_masks.proofs.painting.add_wholes.Goals as goal

pub loop-k-preserved : goal.loop-k-preserved
loop-k-preserved c =
    let k = c.loop-k.k in
    let wholes = c.args.cut.now.wholes.items in
    let w = c.index-wholes-k.result in
    let k_in : k < length wholes = rw c.as_slice-wholes.ensures.value at c.loop-k-test.true in
    let here : w ≡ get_or wholes k w = rw c.as_slice-wholes.ensures.value at c.index-wholes-k.is in
    let puts = rw c.rects.ensures.value at c.in_ok-put_whole.ensures in
    sheet-whole c.args.cut.now.parts c.args.cut.now.owners.items c.args.cut.now.zones.items c.args.cut.now.sides.items wholes
    (map is_second c.args.colours.now) c.args.inks.now (is_second c.args.letter) (length c.args.cut.now.parts) k w _ _ k_in
    (sym here) c.rects.ensures.canonical c.rects.ensures.within c.loop-k.invariant puts

pub returns-in_err-put_whole : goal.returns-in_err-put_whole
returns-in_err-put_whole c = rw (err_from_is_err_and c.from_residual.result c.from_residual.ensures.1).1 tt

pub loop-k-init : goal.loop-k-init
loop-k-init c = c.requires.sheet

pub bounds-wholes-k : goal.bounds-wholes-k
bounds-wholes-k c = c.loop-k-test.true
