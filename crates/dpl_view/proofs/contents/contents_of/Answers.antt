use Rattle.std.proofs.lemmas.Result.{IfOk-from_err}
use Rattle.dpl_view.proofs.contents.contents_of.Goals as goal

pub returns-in_err-tops : goal.returns-in_err-tops
returns-in_err-tops c = IfOk-from_err _ _ c.from_residual.ensures.0

pub returns-in_err-layers : goal.returns-in_err-layers
returns-in_err-layers c = IfOk-from_err _ _ c.from_residual-in_err-layers.ensures.0

pub returns-in_err-placed : goal.returns-in_err-placed
returns-in_err-placed c = IfOk-from_err _ _ c.from_residual-in_err-placed.ensures.0
