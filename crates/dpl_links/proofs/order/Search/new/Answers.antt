use Rattle.std.proofs.lemmas.Result.{IfOk-from_err}
use Rattle.dpl_links.proofs.order.Search.new.Goals as goal

pub returns-in_err-found-clause-found : goal.returns-in_err-found-clause-found
returns-in_err-found-clause-found c = IfOk-from_err _ _ c.from_residual.ensures.0

pub returns-in_err-found-clause-closed : goal.returns-in_err-found-clause-closed
returns-in_err-found-clause-closed c = IfOk-from_err _ _ c.from_residual.ensures.0

pub returns-in_err-found-clause-levels : goal.returns-in_err-found-clause-levels
returns-in_err-found-clause-levels c = IfOk-from_err _ _ c.from_residual.ensures.0

pub returns-in_err-found-clause-vertices : goal.returns-in_err-found-clause-vertices
returns-in_err-found-clause-vertices c = IfOk-from_err _ _ c.from_residual.ensures.0

pub returns-in_err-found-clause-path : goal.returns-in_err-found-clause-path
returns-in_err-found-clause-path c = IfOk-from_err _ _ c.from_residual.ensures.0

pub returns-in_err-closed-clause-found : goal.returns-in_err-closed-clause-found
returns-in_err-closed-clause-found c = IfOk-from_err _ _ c.from_residual-in_err-closed.ensures.0

pub returns-in_err-closed-clause-closed : goal.returns-in_err-closed-clause-closed
returns-in_err-closed-clause-closed c = IfOk-from_err _ _ c.from_residual-in_err-closed.ensures.0

pub returns-in_err-closed-clause-levels : goal.returns-in_err-closed-clause-levels
returns-in_err-closed-clause-levels c = IfOk-from_err _ _ c.from_residual-in_err-closed.ensures.0

pub returns-in_err-closed-clause-vertices : goal.returns-in_err-closed-clause-vertices
returns-in_err-closed-clause-vertices c = IfOk-from_err _ _ c.from_residual-in_err-closed.ensures.0

pub returns-in_err-closed-clause-path : goal.returns-in_err-closed-clause-path
returns-in_err-closed-clause-path c = IfOk-from_err _ _ c.from_residual-in_err-closed.ensures.0

pub returns-in_err-levels-clause-found : goal.returns-in_err-levels-clause-found
returns-in_err-levels-clause-found c = IfOk-from_err _ _ c.from_residual-in_err-levels.ensures.0

pub returns-in_err-levels-clause-closed : goal.returns-in_err-levels-clause-closed
returns-in_err-levels-clause-closed c = IfOk-from_err _ _ c.from_residual-in_err-levels.ensures.0

pub returns-in_err-levels-clause-levels : goal.returns-in_err-levels-clause-levels
returns-in_err-levels-clause-levels c = IfOk-from_err _ _ c.from_residual-in_err-levels.ensures.0

pub returns-in_err-levels-clause-vertices : goal.returns-in_err-levels-clause-vertices
returns-in_err-levels-clause-vertices c = IfOk-from_err _ _ c.from_residual-in_err-levels.ensures.0

pub returns-in_err-levels-clause-path : goal.returns-in_err-levels-clause-path
returns-in_err-levels-clause-path c = IfOk-from_err _ _ c.from_residual-in_err-levels.ensures.0
