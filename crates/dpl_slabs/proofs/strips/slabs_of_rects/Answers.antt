use Rattle.std.proofs.lemmas.Result.{IfOk-weaker}
use Rattle.dpl_slabs.proofs.StripLaws.{sorted-within, sorted-slabs}
use Rattle.dpl_slabs.proofs.strips.slabs_of_rects.Goals as goal

pub slabs_by_blocks-requires-clause-within : goal.slabs_by_blocks-requires-clause-within
slabs_by_blocks-requires-clause-within g c = sorted-within c.args.rects.items _ c.sort_by_corner.ensures.same c.requires.within

pub returns-then-has_open_column-clause-slabs : goal.returns-then-has_open_column-clause-slabs
returns-then-has_open_column-clause-slabs g c =
    IfOk-weaker c.slabs_by_blocks.result _ _ (λ v is. sorted-slabs c.args.rects.items _ v.items c.sort_by_corner.ensures.same is) c.slabs_by_blocks.ensures.slabs

pub slabs_by_rows-requires-clause-within : goal.slabs_by_rows-requires-clause-within
slabs_by_rows-requires-clause-within g c = rw c.deref-2.ensures.value (sorted-within c.args.rects.items _ c.sort_by_corner.ensures.same c.requires.within)

pub returns-clause-slabs : goal.returns-clause-slabs
returns-clause-slabs g c =
    IfOk-weaker c.slabs_by_rows.result _ _ (λ v is. sorted-slabs c.args.rects.items _ v.items c.sort_by_corner.ensures.same is)
    (rw c.deref-2.ensures.value at c.slabs_by_rows.ensures.slabs)
