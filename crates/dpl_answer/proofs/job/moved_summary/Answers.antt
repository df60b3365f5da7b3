use Rattle.std.proofs.lemmas.Result.{IfOk-weaker, IfOk-from_err}
use Rattle.dpl_answer.proofs.Moving.{moved-pairs}
use Rattle.dpl_answer.proofs.Sheeting.{tile-moved}
use Rattle.dpl_answer.proofs.job.moved_summary.Goals as goal

pub stars-requires : goal.stars-requires
stars-requires c =
    rw (c.deref-2.ensures.value, c.in_ok-moved.ensures, c.deref.ensures.value)
    (moved-pairs c.in_ok-edges.edges.items (λ k d l. (c.in_ok-edges.ensures.below k d l).0))

pub returns : goal.returns
returns c =
    IfOk-weaker c.stars.result _ _
    (λ joined sums. tile-moved c.args.plan.now c.args.tile c.in_ok-edges.edges.items joined c.requires c.in_ok-edges.ensures.edges
    (rw (c.deref-2.ensures.value, c.in_ok-moved.ensures, c.deref.ensures.value) at sums)) c.stars.ensures

pub returns-in_err-edges : goal.returns-in_err-edges
returns-in_err-edges c = IfOk-from_err _ _ c.from_residual.ensures.0

pub returns-in_err-moved : goal.returns-in_err-moved
returns-in_err-moved c = IfOk-from_err _ _ c.from_residual-in_err-moved.ensures.0
