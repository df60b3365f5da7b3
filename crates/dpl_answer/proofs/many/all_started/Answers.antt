use Rattle.std.proofs.lemmas.Result.{IfOk-from_err}
use Rattle.dpl_answer.specs.Many.{IsStartOf}
use Rattle.dpl_answer.proofs.ManyCuts.{zip_met}
use Rattle.dpl_answer.proofs.many.all_started.Goals as goal

pub loop-cut-preserved : goal.loop-cut-preserved
loop-cut-preserved g c =
    rw c.in_ok-push.ensures.items
    (zip_met (IsStartOf c.args.spacing) _ _ _ c.cut-item.result _ c.loop-cut-test.true c.cut-item.is c.loop-cut.invariant c.in_ok-started.ensures)

pub returns-in_err-started : goal.returns-in_err-started
returns-in_err-started g c = IfOk-from_err _ _ c.from_residual.ensures.0

pub returns-in_err-push : goal.returns-in_err-push
returns-in_err-push g c = IfOk-from_err _ _ c.from_residual-in_err-push.ensures.0
