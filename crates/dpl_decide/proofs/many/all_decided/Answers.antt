use Rattle.std.proofs.lemmas.Result.{IfOk-from_err}
use Rattle.dpl_decide.proofs.many.all_decided.Goals as goal

pub returns : goal.returns
returns g c = c.all_answered.ensures c.args.layers.items c.in_ok-waiting.ensures

pub returns-in_err-waiting : goal.returns-in_err-waiting
returns-in_err-waiting g c = IfOk-from_err _ _ c.from_residual.ensures.0

pub returns-in_err-conflicts : goal.returns-in_err-conflicts
returns-in_err-conflicts g c = IfOk-from_err _ _ c.from_residual-in_err-conflicts.ensures.0
