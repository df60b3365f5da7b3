use Rattle.std.proofs.lemmas.Result.{IfOk-from_err}
use Rattle.dpl_shapes.proofs.check_path.Goals as goal

pub returns-in_err-drawn_points-clause-faultless : goal.returns-in_err-drawn_points-clause-faultless
returns-in_err-drawn_points-clause-faultless c = IfOk-from_err _ _ c.from_residual.ensures.0
