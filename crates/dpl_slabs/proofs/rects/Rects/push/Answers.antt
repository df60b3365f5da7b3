use Rattle.std.proofs.lemmas.Result.{IfOk-from_err}
use Rattle.dpl_slabs.proofs.rects.Rects.push.Goals as goal

pub returns-in_err-push-in-One-2-clause-pushed : goal.returns-in_err-push-in-One-2-clause-pushed
returns-in_err-push-in-One-2-clause-pushed c = IfOk-from_err _ _ c.from_residual-in_err-push-in-One-2.ensures.0

pub returns-in_err-push-in-One-clause-pushed : goal.returns-in_err-push-in-One-clause-pushed
returns-in_err-push-in-One-clause-pushed c = IfOk-from_err _ _ c.from_residual-in_err-push-in-One.ensures.0

pub returns-in_err-push-in-Many-clause-pushed : goal.returns-in_err-push-in-Many-clause-pushed
returns-in_err-push-in-Many-clause-pushed c = IfOk-from_err _ _ c.from_residual-in_err-push-in-Many.ensures.0

pub returns-in_err-rects-in-One-clause-pushed : goal.returns-in_err-rects-in-One-clause-pushed
returns-in_err-rects-in-One-clause-pushed c = IfOk-from_err _ _ c.from_residual.ensures.0
