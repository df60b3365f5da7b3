use Rattle.std.proofs.lemmas.Result.{IfOk-from_err}
use Rattle.dpl_run.proofs.split.painted_output.Goals as goal

pub returns-in_err-line : goal.returns-in_err-line
returns-in_err-line g c = IfOk-from_err _ _ c.from_residual.ensures.0

pub returns-in_err-bytes : goal.returns-in_err-bytes
returns-in_err-bytes g c = IfOk-from_err _ _ c.from_residual-in_err-bytes.ensures.0

pub returns-in_err-writes : goal.returns-in_err-writes
returns-in_err-writes g c = IfOk-from_err _ _ c.from_residual-in_err-writes.ensures.0
