use Rattle.std.proofs.lemmas.Result.{IfOk-from_err}
use Rattle.dpl_piece.proofs.rest.Cutting.sorted.Goals as goal

pub returns-in_err-sides-clause-sorted : goal.returns-in_err-sides-clause-sorted
returns-in_err-sides-clause-sorted c = IfOk-from_err _ _ c.from_residual.ensures.0

pub returns-in_err-sides-clause-wholes : goal.returns-in_err-sides-clause-wholes
returns-in_err-sides-clause-wholes c = IfOk-from_err _ _ c.from_residual.ensures.0
