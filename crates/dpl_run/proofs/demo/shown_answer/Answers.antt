use Rattle.std.proofs.lemmas.Result.{IfOk-from_err}
use Rattle.dpl_run.proofs.demo.shown_answer.Goals as goal

pub returns-in_err-line-in-Masks : goal.returns-in_err-line-in-Masks
returns-in_err-line-in-Masks c = IfOk-from_err _ _ c.from_residual.ensures.0

pub returns-in_err-line-in-Cycle : goal.returns-in_err-line-in-Cycle
returns-in_err-line-in-Cycle c = IfOk-from_err _ _ c.from_residual-in_err-line-in-Cycle.ensures.0
