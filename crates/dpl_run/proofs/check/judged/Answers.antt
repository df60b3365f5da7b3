use Rattle.std.proofs.lemmas.Result.{IfOk-from_err}
use Rattle.dpl_run.proofs.check.judged.Goals as goal

pub returns-in_err-line : goal.returns-in_err-line
returns-in_err-line c = IfOk-from_err _ _ c.from_residual.ensures.0
