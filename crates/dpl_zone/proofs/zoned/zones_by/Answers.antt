use Rattle.std.proofs.lemmas.Result.{IfOk-from_err}
use Rattle.dpl_zone.proofs.zoned.zones_by.Goals as goal

pub returns-in_err-columns : goal.returns-in_err-columns
returns-in_err-columns g c = IfOk-from_err _ _ c.from_residual.ensures.0

pub returns-in_err-horizontal : goal.returns-in_err-horizontal
returns-in_err-horizontal g c = IfOk-from_err _ _ c.from_residual-in_err-horizontal.ensures.0

pub returns-in_err-vertical : goal.returns-in_err-vertical
returns-in_err-vertical g c = IfOk-from_err _ _ c.from_residual-in_err-vertical.ensures.0
