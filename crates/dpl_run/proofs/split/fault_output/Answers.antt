use Rattle.std.proofs.lemmas.Result.{IfOk-from_err}
use Rattle.dpl_run.proofs.split.fault_output.Goals as goal

pub returns-in_err-line : goal.returns-in_err-line
returns-in_err-line c = IfOk-from_err _ _ c.from_residual.ensures.0

pub returns-in_err-certificate : goal.returns-in_err-certificate
returns-in_err-certificate c = IfOk-from_err _ _ c.from_residual-in_err-certificate.ensures.0

pub returns-in_err-writes : goal.returns-in_err-writes
returns-in_err-writes c = IfOk-from_err _ _ c.from_residual-in_err-writes.ensures.0
