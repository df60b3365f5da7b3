use Rattle.std.proofs.lemmas.Result.{IfOk-from_err}
use Rattle.dpl_view.proofs.tangles.marks_of.Goals as goal

pub returns-in_err-marks-clause-marks : goal.returns-in_err-marks-clause-marks
returns-in_err-marks-clause-marks c = IfOk-from_err _ _ c.from_residual.ensures.0

pub returns-in_err-marks-clause-each : goal.returns-in_err-marks-clause-each
returns-in_err-marks-clause-each c = IfOk-from_err _ _ c.from_residual.ensures.0
