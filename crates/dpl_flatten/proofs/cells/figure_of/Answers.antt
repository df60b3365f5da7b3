use Rattle.std.proofs.lemmas.Result.{IfOk-from_err}
use Rattle.dpl_flatten.proofs.cells.figure_of.Goals as goal

pub returns-in_err-points-clause-points : goal.returns-in_err-points-clause-points
returns-in_err-points-clause-points c = IfOk-from_err _ _ c.from_residual.ensures.0

pub returns-in_err-points-clause-within : goal.returns-in_err-points-clause-within
returns-in_err-points-clause-within c = IfOk-from_err _ _ c.from_residual.ensures.0
