use Rattle.std.proofs.lemmas.Result.{IfOk-from_err}
use Rattle.dpl_cert.proofs.writing.cert_bytes.Goals as goal

pub returns-in_err-out-in-Masks : goal.returns-in_err-out-in-Masks
returns-in_err-out-in-Masks c = IfOk-from_err _ _ c.from_residual.ensures.0

pub returns-in_err-out-in-Conflict : goal.returns-in_err-out-in-Conflict
returns-in_err-out-in-Conflict c = IfOk-from_err _ _ c.from_residual-in_err-out-in-Conflict.ensures.0

pub returns-in_err-out-in-Fault : goal.returns-in_err-out-in-Fault
returns-in_err-out-in-Fault c = IfOk-from_err _ _ c.from_residual-in_err-out-in-Fault.ensures.0
