use Rattle.std.proofs.lemmas.Result.{IfOk-from_err}
use Rattle.dpl_answer.proofs.crowded.crowded_cycle.Goals as goal

pub returns-in_err-crowd-clause-reported : goal.returns-in_err-crowd-clause-reported
returns-in_err-crowd-clause-reported c = IfOk-from_err _ _ c.from_residual.ensures.0

pub returns-in_err-crowd-clause-odd : goal.returns-in_err-crowd-clause-odd
returns-in_err-crowd-clause-odd c = IfOk-from_err _ _ c.from_residual.ensures.0
