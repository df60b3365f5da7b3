use Rattle.std.proofs.lemmas.Result.{IfOk-from_err}
use Rattle.dpl_cert.proofs.writing.put_gain.Goals as goal

pub returns-in_err-push_str : goal.returns-in_err-push_str
returns-in_err-push_str c = IfOk-from_err _ _ c.from_residual.ensures.0

pub returns-in_err-put_number : goal.returns-in_err-put_number
returns-in_err-put_number c = IfOk-from_err _ _ c.from_residual-in_err-put_number.ensures.0

pub returns-in_err-put_pair : goal.returns-in_err-put_pair
returns-in_err-put_pair c = IfOk-from_err _ _ c.from_residual-in_err-put_pair.ensures.0

pub returns-in_err-push_str-2 : goal.returns-in_err-push_str-2
returns-in_err-push_str-2 c = IfOk-from_err _ _ c.from_residual-in_err-push_str-2.ensures.0
