use Rattle.std.proofs.lemmas.Result.{IfOk-from_err}
use Rattle.dpl_shapes.proofs.boundary_loop.Goals as goal

pub returns-in_err-corners-clause-points : goal.returns-in_err-corners-clause-points
returns-in_err-corners-clause-points c = IfOk-from_err _ _ c.from_residual.ensures.0

pub returns-in_err-corners-clause-straight : goal.returns-in_err-corners-clause-straight
returns-in_err-corners-clause-straight c = IfOk-from_err _ _ c.from_residual.ensures.0
