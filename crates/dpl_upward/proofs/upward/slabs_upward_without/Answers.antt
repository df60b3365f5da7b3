use Rattle.std.proofs.lemmas.Result.{IfOk-from_err}
use Rattle.dpl_upward.proofs.upward.slabs_upward_without.Goals as goal

pub returns-in-Some : goal.returns-in-Some
returns-in-Some c = rw c.shrink_to_fit.ensures.items (rw c.in-Some.is at c.in_ok-pieces_upward.ensures)

pub returns-in_err-pieces_upward : goal.returns-in_err-pieces_upward
returns-in_err-pieces_upward c = IfOk-from_err _ _ c.from_residual.ensures.0
