use Rattle.dpl_spec_split.specs.Loops.{farthest}
use Rattle.dpl_slabs.proofs.RowLaws.{within-slabs}
use Rattle.dpl_slabs.proofs.BlockLaws.{permuted-within, blocks-slabs}
use Rattle.std.proofs.lemmas.Result.{IfOk-from_err}
use Rattle.dpl_slabs.proofs.strips.slabs_by_blocks.Goals as goal

pub slabs_of_blocks-requires-clause-within : goal.slabs_of_blocks-requires-clause-within
slabs_of_blocks-requires-clause-within g c = rw c.deref_mut.ensures.value (permuted-within c.args.rects.items _ c.transpose_and_sort.ensures.same c.requires.within)

pub returns-clause-slabs : goal.returns-clause-slabs
returns-clause-slabs g c =
    blocks-slabs c.args.rects.items _ _ _ c.transpose_and_sort.ensures.same (rw c.deref_mut.ensures.value at c.in_ok-slabs.ensures)
    (rw c.shrink_to_fit.ensures.items at c.sort_by_corner.ensures.same) c.sort_by_corner.ensures.rise

pub returns-clause-within : goal.returns-clause-within
returns-clause-within g c = within-slabs farthest c.args.rects.items _ c.requires.within (returns-clause-slabs g c)

pub returns-in_err-slabs-clause-slabs : goal.returns-in_err-slabs-clause-slabs
returns-in_err-slabs-clause-slabs g c = IfOk-from_err _ _ c.from_residual.ensures.0

pub returns-in_err-slabs-clause-within : goal.returns-in_err-slabs-clause-within
returns-in_err-slabs-clause-within g c = IfOk-from_err _ _ c.from_residual.ensures.0
