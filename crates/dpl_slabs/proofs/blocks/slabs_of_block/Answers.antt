use Rattle.std.proofs.lemmas.Result.{IfOk-weaker}
use Rattle.dpl_spec_split.specs.Loops.{farthest}
use Rattle.dpl_slabs.specs.Cells.{transposed_rects}
use Rattle.dpl_slabs.proofs.SetLaws.{transposed-within}
use Rattle.dpl_slabs.proofs.StripLaws.{sorted-slabs, sorted-within}
use Rattle.dpl_slabs.proofs.blocks.slabs_of_block.Goals as goal

pub slabs_by_rows-requires-clause-within : goal.slabs_by_rows-requires-clause-within
slabs_by_rows-requires-clause-within g c =
    let same = rw c.transpose_all.ensures at c.sort_slice_by_corner.ensures.same in
    sorted-within _ _ same (transposed-within farthest c.args.block.now c.requires.within)

pub returns-clause-slabs : goal.returns-clause-slabs
returns-clause-slabs g c =
    let same = rw c.transpose_all.ensures at c.sort_slice_by_corner.ensures.same in
    IfOk-weaker c.slabs_by_rows.result _ _ (λ v h. sorted-slabs (transposed_rects c.args.block.now) _ v.items same h) c.slabs_by_rows.ensures.slabs
