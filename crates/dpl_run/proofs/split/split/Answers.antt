use Rattle.std.proofs.lemmas.Result.{IfOk-weaker, IfOk-from_err}
use Rattle.dpl_decide.specs.View.{decision_view}
use Rattle.dpl_run.proofs.split.split.Goals as goal

pub returns : goal.returns
returns g c =
    let asked = c.order_of.ensures in
    IfOk-weaker c.decided.result _ _ (λ x is. (
      decision_view c.in_ok-decision.decision,
      rw (asked.fewer, asked.choice, asked.spacing, asked.overlap) at c.in_ok-decision.ensures.decision,
      is,
    )) c.decided.ensures

pub returns-in_err-decision : goal.returns-in_err-decision
returns-in_err-decision g c = IfOk-from_err _ _ c.from_residual.ensures.0
