use Rattle.std.proofs.Common.{subst}
use Rattle.std.proofs.lemmas.Result.{IfOk-from_err}
use Rattle.dpl_layer.specs.View.{IsMarkedFault, marked_choice_view}
use Rattle.dpl_layer.specs.declared.fault.LayerFault.{LayerFault}
use Rattle.dpl_answer.specs.View.{flat_view}
use Rattle.dpl_decide.proofs.Layers.{answered, faulty}
use Rattle.dpl_decide.proofs.pipeline.decide.Goals as goal

pub returns-in-Err-Refused-clause-decision : goal.returns-in-Err-Refused-clause-decision
returns-in-Err-Refused-clause-decision g c =
    let order = c.args.order.now in
    let choice = marked_choice_view order.choice in
    let file = c.args.bytes.items in
    rw c.in-Err-Refused.field-0-is (faulty order.recipe.fewer choice order.recipe.spacing order.recipe.overlap file c.in-Err-Refused.name c.in-Err-Refused.at c.requires.size
    (subst (λ (e : LayerFault). IsMarkedFault choice file e) c.in-Err-Refused.field-0-is c.in-Err-Refused.ensures.fault))

pub returns-clause-decision : goal.returns-clause-decision
returns-clause-decision g c =
    let order = c.args.order.now in
    let layer = c.in-Ok.layer in
    answered order.recipe.fewer (marked_choice_view order.choice) order.recipe.spacing order.recipe.overlap c.args.bytes.items layer.copied.items layer.slabs layer.mark_a layer.mark_b
    (flat_view c.in_ok-answer.answer) c.requires.size c.in-Ok.ensures.layer (rw c.marks_by-marks.ensures at c.in_ok-answer.ensures.flat)

pub returns-in_err-answer-clause-decision : goal.returns-in_err-answer-clause-decision
returns-in_err-answer-clause-decision g c = IfOk-from_err _ _ c.from_residual.ensures.0

pub returns-in_err-answer-clause-fits : goal.returns-in_err-answer-clause-fits
returns-in_err-answer-clause-fits g c = IfOk-from_err _ _ c.from_residual.ensures.0
