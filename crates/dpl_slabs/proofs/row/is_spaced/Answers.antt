use Rattle.std.proofs.Common.{◌≡◌, true, false, ◌<◌, ◌-◌, length, get_or, refl, rules, arith}
use Rattle.std.specs.Prelude.{◌<ℤ◌, ◌≤ℤ◌}
use Rattle.std.proofs.lemmas.Int.{ints}
use Rattle.std.proofs.lemmas.List.{get_or_default}
use Rattle.dpl_spec_split.specs.declared.Rect.{Rect}
use Rattle.dpl_slabs.proofs.Firsts.{zero}
use Rattle.dpl_slabs.proofs.RowLaws.{rises-next, rises-spaced}
use Rattle.dpl_slabs.proofs.row.is_spaced.Goals as goal

no : false ≡ true → ⊥
no e = cc

pub returns-then-row-i : goal.returns-then-row-i
returns-then-row-i c =
    let row = c.args.row.now in
    let here : c.loop-i.i < length row = search rules in
    let prev : Rect = get_or row (c.loop-i.i - 1) zero in
    let bar : Rect = get_or row c.loop-i.i zero in
    let meets : bar.x0 ≤ℤ prev.x1 = grind (arith, ints) in
    (λ t. absurd (no t), λ spaced. (let left = spaced.left (c.loop-i.i - 1) c.loop-i.i zero (omega arith) here in let l = left.apart in absurd (omega (arith, ints, l, meets))))

pub loop-i-preserved : goal.loop-i-preserved
loop-i-preserved c =
    let row = c.args.row.now in
    let here : c.loop-i.i < length row = search rules in
    let prev : Rect = get_or row (c.loop-i.i - 1) zero in
    let bar : Rect = get_or row c.loop-i.i zero in
    let right : prev.x1 <ℤ bar.x0 = grind (arith, ints) in
    let before : c.loop-i.i - 1 < length row = omega (arith, here) in
    rises-next row (c.loop-i.i - 1) c.loop-i.i prev bar c.requires (omega arith) here
    (get_or_default row (c.loop-i.i - 1) zero prev before) (get_or_default row c.loop-i.i zero bar here) right c.loop-i.invariant

pub returns : goal.returns
returns c = (λ _. rises-spaced c.args.row.now c.loop-i.i c.requires (omega arith) c.loop-i.invariant, λ _. refl)
