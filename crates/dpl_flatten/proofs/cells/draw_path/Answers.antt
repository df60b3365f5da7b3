use Rattle.std.proofs.lemmas.Result.{IfOk-from_err}
use Rattle.dpl_flatten.proofs.cells.draw_path.Goals as goal

pub returns-clause-straight : goal.returns-clause-straight
returns-clause-straight c = rw (← c.in_ok-loops.ensures.loops) c.in_ok-loops.ensures.straight

pub returns-clause-within : goal.returns-clause-within
returns-clause-within c = rw (← c.in_ok-loops.ensures.loops) c.in_ok-loops.ensures.within

pub returns-in_err-loops-clause-outlines : goal.returns-in_err-loops-clause-outlines
returns-in_err-loops-clause-outlines c = IfOk-from_err _ _ c.from_residual.ensures.0

pub returns-in_err-loops-clause-straight : goal.returns-in_err-loops-clause-straight
returns-in_err-loops-clause-straight c = IfOk-from_err _ _ c.from_residual.ensures.0

pub returns-in_err-loops-clause-within : goal.returns-in_err-loops-clause-within
returns-in_err-loops-clause-within c = IfOk-from_err _ _ c.from_residual.ensures.0

pub returns-in_err-push-clause-outlines : goal.returns-in_err-push-clause-outlines
returns-in_err-push-clause-outlines c = IfOk-from_err _ _ c.from_residual-in_err-push.ensures.0

pub returns-in_err-push-clause-straight : goal.returns-in_err-push-clause-straight
returns-in_err-push-clause-straight c = IfOk-from_err _ _ c.from_residual-in_err-push.ensures.0

pub returns-in_err-push-clause-within : goal.returns-in_err-push-clause-within
returns-in_err-push-clause-within c = IfOk-from_err _ _ c.from_residual-in_err-push.ensures.0
