use Rattle.std.proofs.lemmas.Result.{IfOk-from_err}
use Rattle.dpl_feature.proofs.features.Goals as goal

pub returns-in_err-parents : goal.returns-in_err-parents
returns-in_err-parents c = IfOk-from_err _ _ c.from_residual.ensures.0

pub returns-in_err-parts : goal.returns-in_err-parts
returns-in_err-parts c = IfOk-from_err _ _ c.from_residual-in_err-parts.ensures.0
