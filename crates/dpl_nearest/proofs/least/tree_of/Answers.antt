use Rattle.std.proofs.lemmas.Result.{IfOk-from_err, IfOk-weaker}
use Rattle.dpl_tree.proofs.ItemLaws.{items-one}
use Rattle.dpl_nearest.proofs.least.tree_of.Goals as goal

pub returns : goal.returns
returns c = IfOk-weaker c.of.result _ _ (λ tree is. items-one c.args.rects.now _ _ tree c.new-items.ensures c.in_ok-add.ensures is) c.of.ensures

pub returns-in_err-add : goal.returns-in_err-add
returns-in_err-add c = IfOk-from_err _ _ c.from_residual.ensures.0
