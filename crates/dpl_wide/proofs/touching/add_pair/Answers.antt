use Rattle.std.proofs.lemmas.Result.{IfOk-from_err}
use Rattle.dpl_wide.proofs.touching.add_pair.Goals as goal

pub returns-in_err-push : goal.returns-in_err-push
returns-in_err-push c = IfOk-from_err _ _ c.from_residual.ensures.0

pub returns-in_err-push-2 : goal.returns-in_err-push-2
returns-in_err-push-2 c = IfOk-from_err _ _ c.from_residual-in_err-push-2.ensures.0
