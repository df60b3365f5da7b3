use Rattle.std.proofs.Common.{◌≡◌, ◌∙◌, ap, subst, Option, ℕ, Global}
use Rattle.std.specs.Prelude.{Vec, option_map}
use Rattle.std.proofs.lemmas.Result.{IfOk-weaker, IfOk-from_err}
use Rattle.dpl_host.specs.Outside.{Outside}
use Rattle.dpl_words.specs.Meaning.{SplitValues, edit_view}
use Rattle.dpl_cert.specs.declared.name.Name.TheVariants.{TooLarge}
use Rattle.dpl_layer.specs.Reading.{Faulty, IsLayout, Layer, limit}
use Rattle.dpl_layer.specs.Marked.{MarkedChoice}
use Rattle.dpl_layer.specs.View.{IsLayerFault, choice_view}
use Rattle.dpl_layer.specs.declared.fault.LayerFault.{LayerFault}
use Rattle.dpl_run.specs.Edit.{edit_choice}
use Rattle.dpl_run.specs.Program.{IsMadeOfEdits, IsSeen}
use Rattle.dpl_run.specs.Split.{refusal, split_marked}
use Rattle.dpl_run.specs.View.{output_view}
use Rattle.dpl_run.proofs.Edits.{edit_made, layout_and_edits, layout_faulty, layout_large, layout_read}
use Rattle.dpl_run.proofs.edit.edit_output.Goals as goal

pub returns-in_default-clause-made : goal.returns-in_default-clause-made
returns-in_default-clause-made g c =
    let told = g.H.Host.told c.args.host.now in
    let v = edit_view c.args.options.now in
    let seen = subst (λ (o : Option (Vec ℕ Global)). IsSeen told c.args.options.now.input.now (option_map (λ v. v.items) o)) c.in_default.is c.in_ok-bytes.ensures.seen in
    let is = subst (λ (w : SplitValues). output_view c.in_ok-fault_output.field-0 ≡ refusal w TooLarge limit) c.split_by-split.ensures c.in_ok-fault_output.ensures in
    edit_made told v _ c.requires.apart (layout_large told v _ seen is)

pub returns-in-Ok-clause-made : goal.returns-in-Ok-clause-made
returns-in-Ok-clause-made g c =
    let told = g.H.Host.told c.args.host.now in
    let v = edit_view c.args.options.now in
    let bytes = c.in-Some.bytes.items in
    let layer = c.in-Ok.layer in
    let seen = subst (λ (o : Option (Vec ℕ Global)). IsSeen told c.args.options.now.input.now (option_map (λ v. v.items) o)) c.in-Some.is c.in_ok-bytes.ensures.seen in
    let chosen : choice_view c.order_of-order.result.choice.layer ≡ edit_choice v = ap (λ (m : MarkedChoice). m.layer)
    (c.order_of-order.ensures.choice ∙ ap split_marked c.split_by-split.ensures) in
    let read : IsLayout (edit_choice v) bytes (Layer layer.copied.items layer.slabs) = rw chosen at c.in-Ok.ensures.layer in
    IfOk-weaker c.edit_layer.result _ _
    (λ x h. edit_made told v (output_view x) c.requires.apart (layout_read told v bytes layer.copied.items layer.slabs (output_view x) seen read
    (subst (λ (t : Option Outside). IsMadeOfEdits t v layer.copied.items layer.slabs (output_view x)) c.in_ok-bytes.ensures.same h))) c.edit_layer.ensures.made

pub returns-in_ok-fault_output-in-Err-Refused-clause-made : goal.returns-in_ok-fault_output-in-Err-Refused-clause-made
returns-in_ok-fault_output-in-Err-Refused-clause-made g c =
    let told = g.H.Host.told c.args.host.now in
    let v = edit_view c.args.options.now in
    let bytes = c.in-Some.bytes.items in
    let name = c.in-Err-Refused.name in
    let at = c.in-Err-Refused.at in
    let seen = subst (λ (o : Option (Vec ℕ Global)). IsSeen told c.args.options.now.input.now (option_map (λ v. v.items) o)) c.in-Some.is c.in_ok-bytes.ensures.seen in
    let chosen : choice_view c.order_of-order.result.choice.layer ≡ edit_choice v = ap (λ (m : MarkedChoice). m.layer)
    (c.order_of-order.ensures.choice ∙ ap split_marked c.split_by-split.ensures) in
    let told_fault = rw chosen at c.in-Err-Refused.ensures.fault in
    let fault : IsLayout (edit_choice v) bytes (Faulty name at) = subst (λ (e : LayerFault). IsLayerFault (edit_choice v) bytes e) c.in-Err-Refused.field-0-is told_fault in
    let is = subst (λ (w : SplitValues). output_view c.in_ok-fault_output-in-Err-Refused.field-0 ≡ refusal w name at) c.split_by-split.ensures
    c.in_ok-fault_output-in-Err-Refused.ensures in
    edit_made told v _ c.requires.apart (layout_faulty told v bytes name at _ seen fault is)

pub returns-in-Ok-clause-calls : goal.returns-in-Ok-clause-calls
returns-in-Ok-clause-calls g c =
    let told = g.H.Host.told c.args.host.now in
    let v = edit_view c.args.options.now in
    let layer = c.in-Ok.layer in
    let seen = subst (λ (o : Option (Vec ℕ Global)). IsSeen told c.args.options.now.input.now (option_map (λ v. v.items) o)) c.in-Some.is c.in_ok-bytes.ensures.seen in
    let chosen : choice_view c.order_of-order.result.choice.layer ≡ edit_choice v = ap (λ (m : MarkedChoice). m.layer)
    (c.order_of-order.ensures.choice ∙ ap split_marked c.split_by-split.ensures) in
    let read : IsLayout (edit_choice v) c.in-Some.bytes.items (Layer layer.copied.items layer.slabs) = rw chosen at c.in-Ok.ensures.layer in
    layout_and_edits v c.in-Some.bytes.items layer.copied.items layer.slabs seen read c.in_ok-bytes.ensures.calls c.edit_layer.ensures.calls

pub returns-in_err-bytes-clause-made : goal.returns-in_err-bytes-clause-made
returns-in_err-bytes-clause-made g c = IfOk-from_err _ _ c.from_residual.ensures.0

pub returns-in_err-fault_output-clause-made : goal.returns-in_err-fault_output-clause-made
returns-in_err-fault_output-clause-made g c = IfOk-from_err _ _ c.from_residual-in_err-fault_output.ensures.0

pub returns-in_err-fault_output-in-Err-Refused-clause-made : goal.returns-in_err-fault_output-in-Err-Refused-clause-made
returns-in_err-fault_output-in-Err-Refused-clause-made g c = IfOk-from_err _ _ c.from_residual-in_err-fault_output-in-Err-Refused.ensures.0
