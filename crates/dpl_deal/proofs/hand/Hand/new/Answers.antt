use Rattle.dpl_deal.proofs.Moves.{begins}
use Rattle.std.proofs.lemmas.Result.{IfOk-from_err}
use Rattle.dpl_deal.proofs.hand.Hand.new.Goals as goal

pub fifo_as-requires : goal.fifo_as-requires
fifo_as-requires c = begins

pub returns-in_err-own : goal.returns-in_err-own
returns-in_err-own c = IfOk-from_err _ _ c.from_residual.ensures.0
