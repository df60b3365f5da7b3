use Rattle.std.proofs.Common.{rules}
use Rattle.std.proofs.lemmas.Result.{IfOk-from_err}
use Rattle.dpl_check.proofs.Joining.{trees-fix}
use Rattle.dpl_check.proofs.anchors.mark_trees.Goals as goal

pub returns : goal.returns
returns c = trees-fix c.args.marks (record { a = c.in_ok-a.a; b = c.in_ok-b.b }) c.args.mark_a.now c.args.mark_b.now (search rules) c.in_ok-a.ensures c.in_ok-b.ensures

pub returns-in_err-a : goal.returns-in_err-a
returns-in_err-a c = IfOk-from_err _ _ c.from_residual.ensures.0

pub returns-in_err-b : goal.returns-in_err-b
returns-in_err-b c = IfOk-from_err _ _ c.from_residual-in_err-b.ensures.0
