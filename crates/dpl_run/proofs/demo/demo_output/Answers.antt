use Rattle.std.proofs.lemmas.Result.{IfOk-weaker, IfOk-from_err}
use Rattle.dpl_words.specs.Meaning.{demo_view}
use Rattle.dpl_decide.specs.View.{decision_view}
use Rattle.dpl_run.specs.View.{output_view}
use Rattle.dpl_run.proofs.Inputs.{demo_decided}
use Rattle.dpl_run.proofs.demo.demo_output.Goals as goal

pub returns : goal.returns
returns g c =
    let decision = rw c.uniform.ensures at c.in_ok-decision.ensures.decision in
    IfOk-weaker c.shown.result _ _
    (λ x is. demo_decided (demo_view c.args.options.now) c.in_ok-bytes.bytes.items (decision_view c.in_ok-decision.decision)
    (output_view x) c.in_ok-bytes.ensures.bytes decision is) c.shown.ensures

pub returns-in_err-bytes : goal.returns-in_err-bytes
returns-in_err-bytes g c = IfOk-from_err _ _ c.from_residual.ensures.0

pub returns-in_err-decision : goal.returns-in_err-decision
returns-in_err-decision g c = IfOk-from_err _ _ c.from_residual-in_err-decision.ensures.0
