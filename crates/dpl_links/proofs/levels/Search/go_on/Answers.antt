use Rattle.std.proofs.lemmas.Result.{IfOk-from_err}
use Rattle.dpl_links.proofs.levels.Search.go_on.Goals as goal

pub returns-in_err-push-clause-parts : goal.returns-in_err-push-clause-parts
returns-in_err-push-clause-parts c = IfOk-from_err _ _ c.from_residual.ensures.0

pub returns-in_err-push-clause-path : goal.returns-in_err-push-clause-path
returns-in_err-push-clause-path c = IfOk-from_err _ _ c.from_residual.ensures.0

pub returns-in_err-push-2-clause-parts : goal.returns-in_err-push-2-clause-parts
returns-in_err-push-2-clause-parts c = IfOk-from_err _ _ c.from_residual-in_err-push-2.ensures.0

pub returns-in_err-push-2-clause-path : goal.returns-in_err-push-2-clause-path
returns-in_err-push-2-clause-path c = IfOk-from_err _ _ c.from_residual-in_err-push-2.ensures.0
