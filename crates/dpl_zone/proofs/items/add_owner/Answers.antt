use Rattle.std.proofs.lemmas.Result.{IfOk-from_err}
use Rattle.dpl_zone.proofs.items.add_owner.Goals as goal

pub returns-in_err-owner : goal.returns-in_err-owner
returns-in_err-owner c = IfOk-from_err _ _ c.from_residual.ensures.0
