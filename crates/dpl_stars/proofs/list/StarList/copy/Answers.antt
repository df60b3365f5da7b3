use Rattle.std.proofs.lemmas.Result.{IfOk-from_err}
use Rattle.dpl_stars.proofs.list.StarList.copy.Goals as goal

pub returns-in_err-rows : goal.returns-in_err-rows
returns-in_err-rows c = IfOk-from_err _ _ c.from_residual.ensures.0
