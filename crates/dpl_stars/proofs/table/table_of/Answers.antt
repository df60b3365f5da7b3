use Rattle.std.proofs.lemmas.Result.{IfOk-from_err}
use Rattle.dpl_stars.proofs.table.table_of.Goals as goal

pub returns-in_err-filled : goal.returns-in_err-filled
returns-in_err-filled c = IfOk-from_err _ _ c.from_residual.ensures.0
