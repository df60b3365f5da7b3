use Rattle.std.proofs.lemmas.Result.{IfOk-from_err}
use Rattle.dpl_words.proofs.values.is_beside.Goals as goal

pub returns-in_err-mask_name : goal.returns-in_err-mask_name
returns-in_err-mask_name c = IfOk-from_err _ _ c.from_residual.ensures.0

pub returns-in_err-certificate_name : goal.returns-in_err-certificate_name
returns-in_err-certificate_name c = IfOk-from_err _ _ c.from_residual-in_err-certificate_name.ensures.0
