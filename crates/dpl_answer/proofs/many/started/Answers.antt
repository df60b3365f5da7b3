use Rattle.std.proofs.lemmas.Result.{IfOk-from_err}
use Rattle.dpl_tile.proofs.TileLaws.{doubled-some}
use Rattle.dpl_answer.proofs.many.started.Goals as goal

pub returns : goal.returns
returns g c =
    let plan = c.in_ok-job.ensures.plan in
    ((plan.0, doubled-some c.args.sharing.tile plan.0 c.requires.tile.0 plan.1, plan.2), c.in_ok-job.ensures.marked)

pub returns-in_err-conflicts : goal.returns-in_err-conflicts
returns-in_err-conflicts g c = IfOk-from_err _ _ c.from_residual.ensures.0

pub returns-in_err-job : goal.returns-in_err-job
returns-in_err-job g c = IfOk-from_err _ _ c.from_residual-in_err-job.ensures.0
