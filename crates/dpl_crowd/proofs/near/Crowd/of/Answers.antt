use Rattle.std.proofs.lemmas.Result.{IfOk-from_err}
use Rattle.dpl_crowd.proofs.near.Crowd.of.Goals as goal

pub invariant_of-result : goal.invariant_of-result
invariant_of-result c = (rw c.items.ensures.value at c.in_ok-tree.ensures, c.items.ensures.parts, c.requires.owners, c.requires.corner)

pub returns-in_err-tree : goal.returns-in_err-tree
returns-in_err-tree c = IfOk-from_err _ _ c.from_residual.ensures.0
