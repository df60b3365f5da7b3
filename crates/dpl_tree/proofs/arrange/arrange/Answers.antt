use Rattle.std.proofs.lemmas.List.Sorted.{IsPermutation-trans}
use Rattle.dpl_tree.proofs.arrange.arrange.Goals as goal

pub returns : goal.returns
returns c = IsPermutation-trans _ _ _ c.sort_slice_by_key.ensures.permutation c.arrange_stack.ensures
