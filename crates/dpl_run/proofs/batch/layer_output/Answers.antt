use Rattle.std.proofs.Common.{◌∙◌}
use Rattle.std.proofs.lemmas.Result.{IfOk-weaker, IfOk-from_err}
use Rattle.dpl_words.specs.Meaning.{batch_view}
use Rattle.dpl_decide.specs.View.{decision_view}
use Rattle.dpl_run.proofs.Batches.{plan_named}
use Rattle.dpl_run.proofs.batch.layer_output.Goals as goal

pub returns : goal.returns
returns g c =
    let v = batch_view c.args.options.now in
    let masks = c.as_str.ensures.value ∙ c.in_ok-masks.ensures in
    let certificate = c.as_str-2.ensures.value ∙ c.in_ok-certificate.ensures in
    IfOk-weaker c.owned.result _ _ (λ x is. is ∙ c.in_ok-made.ensures ∙ plan_named v c.args.layer _ _ (decision_view c.args.decision) masks certificate) c.owned.ensures

pub returns-in_err-masks : goal.returns-in_err-masks
returns-in_err-masks g c = IfOk-from_err _ _ c.from_residual.ensures.0

pub returns-in_err-certificate : goal.returns-in_err-certificate
returns-in_err-certificate g c = IfOk-from_err _ _ c.from_residual-in_err-certificate.ensures.0

pub returns-in_err-made : goal.returns-in_err-made
returns-in_err-made g c = IfOk-from_err _ _ c.from_residual-in_err-made.ensures.0
