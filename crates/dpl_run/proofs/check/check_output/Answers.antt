use Rattle.std.proofs.Common.{subst, Option, ℕ, Global}
use Rattle.std.specs.Prelude.{Vec, option_map}
use Rattle.std.proofs.lemmas.Result.{IfOk-weaker, IfOk-from_err}
use Rattle.dpl_host.specs.Calls.{Logged}
use Rattle.dpl_host.specs.Outside.{Outside}
use Rattle.dpl_words.specs.Meaning.{check_view}
use Rattle.dpl_run.specs.Check.{check_marked}
use Rattle.dpl_run.specs.Program.{IsMadeOfLayer, IsSeen}
use Rattle.dpl_layer.specs.Marked.{FaultyMarked, IsMarkedLayout, MarkedLayer}
use Rattle.dpl_layer.specs.View.{IsMarkedFault}
use Rattle.dpl_run.specs.View.{marks_with, output_view}
use Rattle.dpl_layer.specs.declared.fault.LayerFault.{LayerFault}
use Rattle.dpl_run.proofs.Checking.{check_made, layout_faulty, layout_large, layout_read}
use Rattle.dpl_run.specs.Calls.{AreReadsOfCert}
use Rattle.dpl_run.proofs.Calls.{layout_and_more}
use Rattle.dpl_decide.proofs.Marking.{are_marks}
use Rattle.dpl_run.proofs.check.check_output.Goals as goal

pub returns-in_default-clause-made : goal.returns-in_default-clause-made
returns-in_default-clause-made g c =
    let told = g.H.Host.told c.args.host.now in
    let v = check_view c.args.options.now in
    let seen = subst (λ (o : Option (Vec ℕ Global)). IsSeen told c.args.options.now.input.now (option_map (λ v. v.items) o)) c.in_default.is c.in_ok-bytes.ensures.seen in
    check_made told v _ c.requires.apart (layout_large told v _ seen c.in_ok-too_large.ensures)

pub returns-in-Ok-clause-made : goal.returns-in-Ok-clause-made
returns-in-Ok-clause-made g c =
    let told = g.H.Host.told c.args.host.now in
    let v = check_view c.args.options.now in
    let bytes = c.in-Some.bytes.items in
    let layer = c.in-Ok.layer in
    let seen = subst (λ (o : Option (Vec ℕ Global)). IsSeen told c.args.options.now.input.now (option_map (λ v. v.items) o)) c.in-Some.is c.in_ok-bytes.ensures.seen in
    let read : IsMarkedLayout (check_marked v) bytes (MarkedLayer layer.copied.items layer.slabs layer.mark_a layer.mark_b) = rw c.choice_of.ensures at c.in-Ok.ensures.layer in
    IfOk-weaker c.check_layer.result _ _
    (λ x h. check_made told v (output_view x) c.requires.apart (layout_read told v bytes layer.copied.items layer.slabs layer.mark_a layer.mark_b (output_view x) seen read
    (subst (λ (t : Option Outside). IsMadeOfLayer t v (marks_with v layer) layer.slabs (output_view x)) c.in_ok-bytes.ensures.same h))) c.check_layer.ensures.made

pub returns-in_ok-refused-in-Err-Refused-clause-made : goal.returns-in_ok-refused-in-Err-Refused-clause-made
returns-in_ok-refused-in-Err-Refused-clause-made g c =
    let told = g.H.Host.told c.args.host.now in
    let v = check_view c.args.options.now in
    let bytes = c.in-Some.bytes.items in
    let name = c.in-Err-Refused.name in
    let at = c.in-Err-Refused.at in
    let seen = subst (λ (o : Option (Vec ℕ Global)). IsSeen told c.args.options.now.input.now (option_map (λ v. v.items) o)) c.in-Some.is c.in_ok-bytes.ensures.seen in
    let told_fault = rw c.choice_of.ensures at c.in-Err-Refused.ensures.fault in
    let fault : IsMarkedLayout (check_marked v) bytes (FaultyMarked name at) = subst (λ (e : LayerFault). IsMarkedFault (check_marked v) bytes e)
    c.in-Err-Refused.field-0-is told_fault in
    check_made told v _ c.requires.apart (layout_faulty told v bytes name at _ seen fault c.in_ok-refused-in-Err-Refused.ensures)

pub returns-in-Ok-clause-calls : goal.returns-in-Ok-clause-calls
returns-in-Ok-clause-calls g c =
    let told = g.H.Host.told c.args.host.now in
    let v = check_view c.args.options.now in
    let layer = c.in-Ok.layer in
    let seen = subst (λ (o : Option (Vec ℕ Global)). IsSeen told c.args.options.now.input.now (option_map (λ v. v.items) o)) c.in-Some.is c.in_ok-bytes.ensures.seen in
    let behind = subst (λ (t : Option Outside). Logged (g.H.Host.log c.read_input.new.host) (g.H.Host.log c.check_layer.new.host) (AreReadsOfCert v t))
    c.in_ok-bytes.ensures.same c.check_layer.ensures.calls in
    let read : IsMarkedLayout (check_marked v) c.in-Some.bytes.items (MarkedLayer layer.copied.items layer.slabs layer.mark_a layer.mark_b) = rw c.choice_of.ensures at c.in-Ok.ensures.layer in
    layout_and_more v c.in-Some.bytes.items layer.copied.items layer.slabs layer.mark_a layer.mark_b seen read c.in_ok-bytes.ensures.calls behind

pub check_layer-requires-clause-marks : goal.check_layer-requires-clause-marks
check_layer-requires-clause-marks g c =
    let v = check_view c.args.options.now in
    let layer = c.in-Ok.layer in
    let read : IsMarkedLayout (check_marked v) c.in-Some.bytes.items (MarkedLayer layer.copied.items layer.slabs layer.mark_a layer.mark_b) = rw c.choice_of.ensures at c.in-Ok.ensures.layer in
    are_marks (check_marked v) c.in-Some.bytes.items layer.copied.items layer.slabs layer.mark_a layer.mark_b read

pub returns-in_err-bytes-clause-made : goal.returns-in_err-bytes-clause-made
returns-in_err-bytes-clause-made g c = IfOk-from_err _ _ c.from_residual.ensures.0

pub returns-in_err-too_large-clause-made : goal.returns-in_err-too_large-clause-made
returns-in_err-too_large-clause-made g c = IfOk-from_err _ _ c.from_residual-in_err-too_large.ensures.0

pub returns-in_err-refused-in-Err-Refused-clause-made : goal.returns-in_err-refused-in-Err-Refused-clause-made
returns-in_err-refused-in-Err-Refused-clause-made g c = IfOk-from_err _ _ c.from_residual-in_err-refused-in-Err-Refused.ensures.0
