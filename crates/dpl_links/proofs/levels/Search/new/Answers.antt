use Rattle.std.proofs.lemmas.Result.{IfOk-from_err}
use Rattle.dpl_links.proofs.levels.Search.new.Goals as goal

pub returns-in_err-found-clause-found : goal.returns-in_err-found-clause-found
returns-in_err-found-clause-found c = IfOk-from_err _ _ c.from_residual.ensures.0

pub returns-in_err-found-clause-closed : goal.returns-in_err-found-clause-closed
returns-in_err-found-clause-closed c = IfOk-from_err _ _ c.from_residual.ensures.0

pub returns-in_err-found-clause-numbers : goal.returns-in_err-found-clause-numbers
returns-in_err-found-clause-numbers c = IfOk-from_err _ _ c.from_residual.ensures.0

pub returns-in_err-found-clause-levels : goal.returns-in_err-found-clause-levels
returns-in_err-found-clause-levels c = IfOk-from_err _ _ c.from_residual.ensures.0

pub returns-in_err-found-clause-finds : goal.returns-in_err-found-clause-finds
returns-in_err-found-clause-finds c = IfOk-from_err _ _ c.from_residual.ensures.0

pub returns-in_err-found-clause-roots : goal.returns-in_err-found-clause-roots
returns-in_err-found-clause-roots c = IfOk-from_err _ _ c.from_residual.ensures.0

pub returns-in_err-found-clause-parts : goal.returns-in_err-found-clause-parts
returns-in_err-found-clause-parts c = IfOk-from_err _ _ c.from_residual.ensures.0

pub returns-in_err-found-clause-path : goal.returns-in_err-found-clause-path
returns-in_err-found-clause-path c = IfOk-from_err _ _ c.from_residual.ensures.0

pub returns-in_err-closed-clause-found : goal.returns-in_err-closed-clause-found
returns-in_err-closed-clause-found c = IfOk-from_err _ _ c.from_residual-in_err-closed.ensures.0

pub returns-in_err-closed-clause-closed : goal.returns-in_err-closed-clause-closed
returns-in_err-closed-clause-closed c = IfOk-from_err _ _ c.from_residual-in_err-closed.ensures.0

pub returns-in_err-closed-clause-numbers : goal.returns-in_err-closed-clause-numbers
returns-in_err-closed-clause-numbers c = IfOk-from_err _ _ c.from_residual-in_err-closed.ensures.0

pub returns-in_err-closed-clause-levels : goal.returns-in_err-closed-clause-levels
returns-in_err-closed-clause-levels c = IfOk-from_err _ _ c.from_residual-in_err-closed.ensures.0

pub returns-in_err-closed-clause-finds : goal.returns-in_err-closed-clause-finds
returns-in_err-closed-clause-finds c = IfOk-from_err _ _ c.from_residual-in_err-closed.ensures.0

pub returns-in_err-closed-clause-roots : goal.returns-in_err-closed-clause-roots
returns-in_err-closed-clause-roots c = IfOk-from_err _ _ c.from_residual-in_err-closed.ensures.0

pub returns-in_err-closed-clause-parts : goal.returns-in_err-closed-clause-parts
returns-in_err-closed-clause-parts c = IfOk-from_err _ _ c.from_residual-in_err-closed.ensures.0

pub returns-in_err-closed-clause-path : goal.returns-in_err-closed-clause-path
returns-in_err-closed-clause-path c = IfOk-from_err _ _ c.from_residual-in_err-closed.ensures.0

pub returns-in_err-numbers-clause-found : goal.returns-in_err-numbers-clause-found
returns-in_err-numbers-clause-found c = IfOk-from_err _ _ c.from_residual-in_err-numbers.ensures.0

pub returns-in_err-numbers-clause-closed : goal.returns-in_err-numbers-clause-closed
returns-in_err-numbers-clause-closed c = IfOk-from_err _ _ c.from_residual-in_err-numbers.ensures.0

pub returns-in_err-numbers-clause-numbers : goal.returns-in_err-numbers-clause-numbers
returns-in_err-numbers-clause-numbers c = IfOk-from_err _ _ c.from_residual-in_err-numbers.ensures.0

pub returns-in_err-numbers-clause-levels : goal.returns-in_err-numbers-clause-levels
returns-in_err-numbers-clause-levels c = IfOk-from_err _ _ c.from_residual-in_err-numbers.ensures.0

pub returns-in_err-numbers-clause-finds : goal.returns-in_err-numbers-clause-finds
returns-in_err-numbers-clause-finds c = IfOk-from_err _ _ c.from_residual-in_err-numbers.ensures.0

pub returns-in_err-numbers-clause-roots : goal.returns-in_err-numbers-clause-roots
returns-in_err-numbers-clause-roots c = IfOk-from_err _ _ c.from_residual-in_err-numbers.ensures.0

pub returns-in_err-numbers-clause-parts : goal.returns-in_err-numbers-clause-parts
returns-in_err-numbers-clause-parts c = IfOk-from_err _ _ c.from_residual-in_err-numbers.ensures.0

pub returns-in_err-numbers-clause-path : goal.returns-in_err-numbers-clause-path
returns-in_err-numbers-clause-path c = IfOk-from_err _ _ c.from_residual-in_err-numbers.ensures.0

pub returns-in_err-levels-clause-found : goal.returns-in_err-levels-clause-found
returns-in_err-levels-clause-found c = IfOk-from_err _ _ c.from_residual-in_err-levels.ensures.0

pub returns-in_err-levels-clause-closed : goal.returns-in_err-levels-clause-closed
returns-in_err-levels-clause-closed c = IfOk-from_err _ _ c.from_residual-in_err-levels.ensures.0

pub returns-in_err-levels-clause-numbers : goal.returns-in_err-levels-clause-numbers
returns-in_err-levels-clause-numbers c = IfOk-from_err _ _ c.from_residual-in_err-levels.ensures.0

pub returns-in_err-levels-clause-levels : goal.returns-in_err-levels-clause-levels
returns-in_err-levels-clause-levels c = IfOk-from_err _ _ c.from_residual-in_err-levels.ensures.0

pub returns-in_err-levels-clause-finds : goal.returns-in_err-levels-clause-finds
returns-in_err-levels-clause-finds c = IfOk-from_err _ _ c.from_residual-in_err-levels.ensures.0

pub returns-in_err-levels-clause-roots : goal.returns-in_err-levels-clause-roots
returns-in_err-levels-clause-roots c = IfOk-from_err _ _ c.from_residual-in_err-levels.ensures.0

pub returns-in_err-levels-clause-parts : goal.returns-in_err-levels-clause-parts
returns-in_err-levels-clause-parts c = IfOk-from_err _ _ c.from_residual-in_err-levels.ensures.0

pub returns-in_err-levels-clause-path : goal.returns-in_err-levels-clause-path
returns-in_err-levels-clause-path c = IfOk-from_err _ _ c.from_residual-in_err-levels.ensures.0
