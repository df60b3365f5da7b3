use Rattle.std.proofs.lemmas.Result.{IfOk-from_err}
use Rattle.dpl_masks.proofs.painting.both_by.Goals as goal

pub returns-in_err-a : goal.returns-in_err-a
returns-in_err-a g c = IfOk-from_err _ _ c.from_residual.ensures.0

pub returns-in_err-b : goal.returns-in_err-b
returns-in_err-b g c = IfOk-from_err _ _ c.from_residual-in_err-b.ensures.0
