use Rattle.std.proofs.lemmas.List.Sorted.{IsPermutation-append}
use Rattle.dpl_tree.proofs.arrange.+arrange_stack.Goals as goal

pub returns : goal.returns
returns t c = rw c.split_at_mut-low.ensures.value (IsPermutation-append _ _ _ _ c.arrange_stack.ensures c.arrange_stack-2.ensures)
