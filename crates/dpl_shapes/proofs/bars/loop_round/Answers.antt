use Rattle.std.proofs.lemmas.Result.{IfOk-from_err}
use Rattle.dpl_shapes.proofs.bars.loop_round.Goals as goal

pub returns-in_err-corners : goal.returns-in_err-corners
returns-in_err-corners c = IfOk-from_err _ _ c.from_residual.ensures.0

pub returns-in_err-push : goal.returns-in_err-push
returns-in_err-push c = IfOk-from_err _ _ c.from_residual-in_err-push.ensures.0

pub returns-in_err-push-2 : goal.returns-in_err-push-2
returns-in_err-push-2 c = IfOk-from_err _ _ c.from_residual-in_err-push-2.ensures.0

pub returns-in_err-push-3 : goal.returns-in_err-push-3
returns-in_err-push-3 c = IfOk-from_err _ _ c.from_residual-in_err-push-3.ensures.0

pub returns-in_err-push-4 : goal.returns-in_err-push-4
returns-in_err-push-4 c = IfOk-from_err _ _ c.from_residual-in_err-push-4.ensures.0
