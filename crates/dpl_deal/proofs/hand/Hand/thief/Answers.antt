use Rattle.std.proofs.lemmas.Result.{IfOk-from_err}
use Rattle.dpl_deal.proofs.hand.Hand.thief.Goals as goal

pub returns-in_err-stealer : goal.returns-in_err-stealer
returns-in_err-stealer c = IfOk-from_err _ _ c.from_residual.ensures.0
