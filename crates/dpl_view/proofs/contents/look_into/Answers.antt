use Rattle.std.proofs.lemmas.Result.{IfOk-from_err}
use Rattle.dpl_view.proofs.contents.look_into.Goals as goal

pub returns-in_err-contents-in-Ok : goal.returns-in_err-contents-in-Ok
returns-in_err-contents-in-Ok c = IfOk-from_err _ _ c.from_residual.ensures.0
