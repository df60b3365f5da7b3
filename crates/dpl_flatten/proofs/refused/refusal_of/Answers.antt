use Rattle.std.proofs.lemmas.Result.{IfOk-from_err}
use Rattle.dpl_flatten.proofs.refused.refusal_of.Goals as goal

pub returns-in_err-fault : goal.returns-in_err-fault
returns-in_err-fault c = IfOk-from_err _ _ c.from_residual.ensures.0
