use Rattle.std.proofs.lemmas.Result.{IfOk-from_err}
use Rattle.dpl_cert.proofs.writing.fault_text.Goals as goal

pub returns-in_err-write : goal.returns-in_err-write
returns-in_err-write c = IfOk-from_err _ _ c.from_residual.ensures.0
