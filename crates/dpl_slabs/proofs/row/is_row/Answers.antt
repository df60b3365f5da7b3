use Rattle.std.proofs.Common.{◌≡◌, true, false, ◌<◌, length, get_or, below_more, refl, rules, arith}
use Rattle.std.proofs.lemmas.List.{get_or_default}
use Rattle.dpl_spec_split.specs.declared.Rect.{Rect}
use Rattle.dpl_spec_split.specs.Slabs.{IsSolid}
use Rattle.dpl_slabs.specs.Rows.{AreLevel}
use Rattle.dpl_slabs.proofs.Firsts.{zero}
use Rattle.dpl_slabs.proofs.RowLaws.{row-from, row-beside}
use Rattle.dpl_slabs.proofs.row.is_row.Goals as goal

pub loop-i-preserved : goal.loop-i-preserved
loop-i-preserved c =
    let rs = c.args.rects.now in
    let here : c.loop-i.i < length rs = search rules in
    let first : Rect = get_or rs 0 zero in
    below_more (λ k. (d : Rect) → IsSolid (get_or rs k d) × AreLevel first (get_or rs k d)) c.loop-i.i c.loop-i.invariant
    (λ d. let e = get_or_default rs c.loop-i.i d zero here in rw e (c.if-not-is_beside.ensures.0 refl))

no : false ≡ true → ⊥
no e = cc

pub returns-then-not-is_beside : goal.returns-then-not-is_beside
returns-then-not-is_beside c =
    let here : c.loop-i.i < length c.args.rects.now = search rules in
    (λ t. absurd (no t), λ row. c.if-not-is_beside.ensures.1 (row-beside c.args.rects.now c.loop-i.i zero zero c.requires here row))

pub returns : goal.returns
returns c = (λ _. row-from c.args.rects.now (get_or c.args.rects.now 0 zero) (λ k k_in d. c.loop-i.invariant k (omega (arith, k_in)) d), λ _. refl)
