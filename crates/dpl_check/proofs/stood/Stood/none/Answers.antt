use Rattle.std.proofs.lemmas.Result.{IfOk-from_err}
use Rattle.dpl_check.proofs.stood.Stood.none.Goals as goal

pub returns-in_err-pieces : goal.returns-in_err-pieces
returns-in_err-pieces c = IfOk-from_err _ _ c.from_residual.ensures.0
