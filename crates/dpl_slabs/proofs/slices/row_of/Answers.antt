use Rattle.std.proofs.Common.{arith}
use Rattle.std.proofs.lemmas.List.Sorted.{length_permutation, Contains-permutation}
use Rattle.std.proofs.lemmas.Result.{IfOk-weaker}
use Rattle.dpl_slabs.proofs.StripLaws.{sorted-slabs}
use Rattle.dpl_slabs.proofs.RowLaws.{spaced-slabs}
use Rattle.dpl_slabs.proofs.SliceLaws.{row-sorted}
use Rattle.dpl_slabs.proofs.slices.row_of.Goals as goal

pub slabs_of_row-requires-clause-some : goal.slabs_of_row-requires-clause-some
slabs_of_row-requires-clause-some c =
    let same = length_permutation c.args.bars.items _ c.sort_by_corner.ensures.same in
    rw c.deref-2.ensures.value (let h = c.is_empty.ensures in grind (arith, same))

pub slabs_of_row-requires-clause-row : goal.slabs_of_row-requires-clause-row
slabs_of_row-requires-clause-row c = rw c.deref-2.ensures.value (row-sorted c.args.bars.items _ c.sort_by_corner.ensures.same c.requires)

pub returns-clause-slabs : goal.returns-clause-slabs
returns-clause-slabs c =
    IfOk-weaker c.slabs_of_row.result _ _ (λ v is. sorted-slabs c.args.bars.items _ v.items c.sort_by_corner.ensures.same is)
    (rw c.deref-2.ensures.value at c.slabs_of_row.ensures.slabs)

pub returns-clause-level : goal.returns-clause-level
returns-clause-level c =
    IfOk-weaker c.slabs_of_row.result _ _
    (λ v level r b r_in b_in. level r b r_in (Contains-permutation c.args.bars.items _ b c.sort_by_corner.ensures.same b_in))
    (rw c.deref-2.ensures.value at c.slabs_of_row.ensures.level)

pub is_spaced-requires : goal.is_spaced-requires
is_spaced-requires c = rw c.deref.ensures.value (row-sorted c.args.bars.items _ c.sort_by_corner.ensures.same c.requires)

pub returns-then-is_spaced-clause-slabs : goal.returns-then-is_spaced-clause-slabs
returns-then-is_spaced-clause-slabs c =
    let spaced = rw c.deref.ensures.value at (c.is_spaced.ensures.0 c.if-is_spaced.true) in
    sorted-slabs c.args.bars.items _ _ c.sort_by_corner.ensures.same (spaced-slabs _ spaced)

pub returns-then-is_spaced-clause-level : goal.returns-then-is_spaced-clause-level
returns-then-is_spaced-clause-level c =
    let row = row-sorted c.args.bars.items _ c.sort_by_corner.ensures.same c.requires in
    λ r b r_in b_in. row.level r b r_in (Contains-permutation c.args.bars.items _ b c.sort_by_corner.ensures.same b_in)

pub returns-clause-spaced : goal.returns-clause-spaced
returns-clause-spaced c = c.slabs_of_row.ensures.spaced

pub returns-then-is_spaced-clause-spaced : goal.returns-then-is_spaced-clause-spaced
returns-then-is_spaced-clause-spaced c = rw c.deref.ensures.value at (c.is_spaced.ensures.0 c.if-is_spaced.true)
