use Rattle.std.proofs.lemmas.Result.{IfOk-from_err}
use Rattle.dpl_links.proofs.order.Search.close.Goals as goal

pub returns-in_err-push-clause-closed : goal.returns-in_err-push-clause-closed
returns-in_err-push-clause-closed c = IfOk-from_err _ _ c.from_residual.ensures.0

pub returns-in_err-push-clause-levels : goal.returns-in_err-push-clause-levels
returns-in_err-push-clause-levels c = IfOk-from_err _ _ c.from_residual.ensures.0

pub returns-in_err-push-clause-vertices : goal.returns-in_err-push-clause-vertices
returns-in_err-push-clause-vertices c = IfOk-from_err _ _ c.from_residual.ensures.0
