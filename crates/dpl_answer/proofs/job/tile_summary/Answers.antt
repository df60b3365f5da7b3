use Rattle.std.proofs.lemmas.Result.{IfOk-weaker, IfOk-from_err}
use Rattle.dpl_answer.proofs.Sheeting.{tile-sums}
use Rattle.dpl_answer.proofs.job.tile_summary.Goals as goal

pub returns : goal.returns
returns c =
    IfOk-weaker c.stars.result _ _
    (λ joined sums. tile-sums c.args.plan.now c.args.tile c.in_ok-edges.edges.items joined c.requires c.in_ok-edges.ensures.edges (rw c.deref.ensures.value at sums)) c.stars.ensures

pub returns-in_err-edges : goal.returns-in_err-edges
returns-in_err-edges c = IfOk-from_err _ _ c.from_residual.ensures.0
