use Rattle.std.proofs.lemmas.Result.{IfOk-from_err}
use Rattle.dpl_stars.proofs.reached.Reached.meet.Goals as goal

pub returns-in_err-note : goal.returns-in_err-note
returns-in_err-note c = IfOk-from_err _ _ c.from_residual.ensures.0
