use Rattle.std.proofs.lemmas.Result.{IfOk-from_err}
use Rattle.dpl_sweep.proofs.choice.pieces_of_many.Goals as goal

pub returns-in_err-spans-clause-apart : goal.returns-in_err-spans-clause-apart
returns-in_err-spans-clause-apart c = IfOk-from_err _ _ c.from_residual.ensures.0

pub returns-in_err-spans-clause-covers : goal.returns-in_err-spans-clause-covers
returns-in_err-spans-clause-covers c = IfOk-from_err _ _ c.from_residual.ensures.0
