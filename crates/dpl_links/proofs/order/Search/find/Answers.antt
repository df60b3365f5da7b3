use Rattle.std.proofs.lemmas.Result.{IfOk-from_err}
use Rattle.dpl_links.proofs.order.Search.find.Goals as goal

pub returns-in_err-push-clause-found : goal.returns-in_err-push-clause-found
returns-in_err-push-clause-found c = IfOk-from_err _ _ c.from_residual.ensures.0

pub returns-in_err-push-clause-path : goal.returns-in_err-push-clause-path
returns-in_err-push-clause-path c = IfOk-from_err _ _ c.from_residual.ensures.0
