use Rattle.std.proofs.Common.{◌≡◌, ℕ, ◌<◌, ◌∙◌, subst, [], false, length, get_or, map, ap, sym, arith}
use Rattle.std.proofs.lemmas.Result.{err_from_is_err_and}
use Rattle.std.proofs.lemmas.List.{get_or-map, get_or_default}
use Rattle.dpl_orient.specs.Masks.{is_second}
use Rattle.dpl_orient.specs.declared.mask.Mask.TheVariants.{A}
use Rattle.dpl_masks.specs.Inks.{ink_at}
use Rattle.dpl_masks.specs.Sheets.{IsSheetTo}
use Rattle.dpl_masks.proofs.SheetLaws.{piece-put, sheet-piece}
use Rattle.dpl_masks.proofs.painting.add_uncut.Goals as goal

pub loop-k-preserved : goal.loop-k-preserved
loop-k-preserved c =
    let k = c.loop-k.k in
    let parts = c.args.cut.now.parts in
    let k_in : k < length parts = rw c.items-parts.ensures.value at c.loop-k-test.true in
    let each = c.requires.each in
    let colour_in : k < length c.args.colours.now = omega (arith, each, k_in) in
    let colour = sym (get_or-map is_second c.args.colours.now k A false colour_in) in
    let here : c.index-parts-k.result ≡ get_or parts k c.index-parts-k.result = rw c.items-parts.ensures.value at c.index-parts-k.is in
    let part = c.rects.ensures.value ∙ (here ∙ get_or_default parts k c.index-parts-k.result [] k_in) in
    let ink = ap (λ l. ink_at c.args.inks.now (get_or l k 0)) c.as_slice-owners.ensures.value in
    sheet-piece parts c.args.cut.now.owners.items c.args.cut.now.zones.items c.args.cut.now.sides.items c.args.cut.now.wholes.items
    (map is_second c.args.colours.now) c.args.inks.now (is_second c.args.letter) k _ _ k_in c.loop-k.invariant
    (piece-put _ _ _ _ _ _ _ _ _ ink colour part c.in_ok-put_uncut.ensures)

pub returns : goal.returns
returns c =
    let low = rw c.items-parts.ensures.value at c.loop-k-test.false in
    let high = rw c.items-parts.ensures.value at c.loop-k.auto.k-end in
    let all : c.loop-k.k ≡ length c.args.cut.now.parts = omega (arith, low, high) in
    subst (λ (n : ℕ). IsSheetTo c.args.cut.now.parts c.args.cut.now.owners.items c.args.cut.now.zones.items c.args.cut.now.sides.items
    c.args.cut.now.wholes.items (map is_second c.args.colours.now) c.args.inks.now (is_second c.args.letter) n 0 c.loop-k.rects.items) all
    c.loop-k.invariant

pub returns-in_err-put_uncut : goal.returns-in_err-put_uncut
returns-in_err-put_uncut c = rw (err_from_is_err_and c.from_residual.result c.from_residual.ensures.1).1 tt

pub loop-k-init : goal.loop-k-init
loop-k-init c = c.requires.sheet
