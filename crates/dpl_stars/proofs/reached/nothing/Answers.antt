use Rattle.std.proofs.lemmas.Result.{IfOk-from_err}
use Rattle.dpl_stars.proofs.reached.nothing.Goals as goal

pub returns-in_err-vec : goal.returns-in_err-vec
returns-in_err-vec c = IfOk-from_err _ _ c.from_residual.ensures.0

pub returns-in_err-vec-2 : goal.returns-in_err-vec-2
returns-in_err-vec-2 c = IfOk-from_err _ _ c.from_residual-in_err-vec-2.ensures.0

pub returns-in_err-with_capacity : goal.returns-in_err-with_capacity
returns-in_err-with_capacity c = IfOk-from_err _ _ c.from_residual-in_err-with_capacity.ensures.0
