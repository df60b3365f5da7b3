use Rattle.std.proofs.lemmas.Result.{IfOk-from_err}
use Rattle.dpl_stars.proofs.joined.Joined.copy.Goals as goal

pub returns-in_err-copy-in-Stars : goal.returns-in_err-copy-in-Stars
returns-in_err-copy-in-Stars c = IfOk-from_err _ _ c.from_residual.ensures.0
