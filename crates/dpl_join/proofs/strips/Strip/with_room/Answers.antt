use Rattle.std.proofs.lemmas.Result.{IfOk-from_err}
use Rattle.dpl_join.proofs.strips.Strip.with_room.Goals as goal

pub returns-in_err-numbers : goal.returns-in_err-numbers
returns-in_err-numbers c = IfOk-from_err _ _ c.from_residual.ensures.0
