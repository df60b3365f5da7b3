use Rattle.std.proofs.lemmas.Result.{IfOk-weaker, IfOk-from_err}
use Rattle.dpl_sweep.proofs.StepLaws.{spans-of}
use Rattle.dpl_sweep.proofs.spans.spans_of.Goals as goal

pub returns : goal.returns
returns c =
    IfOk-weaker c.steps_of.result _ _ (λ v is. spans-of c.args.edges.now c.in_ok-ends.ends.items v.items c.in_ok-ends.ensures.rise c.in_ok-ends.ensures.ends is)
    (rw c.deref.ensures.value at c.steps_of.ensures)

pub returns-in_err-ends : goal.returns-in_err-ends
returns-in_err-ends c = IfOk-from_err _ _ c.from_residual.ensures.0
