use Rattle.std.proofs.Common.{subst, List, ℕ}
use Rattle.std.proofs.lemmas.Result.{IfOk-weaker, IfOk-from_err}
use Rattle.dpl_words.specs.Meaning.{check_view}
use Rattle.dpl_run.specs.Check.{mask_choice}
use Rattle.dpl_layer.specs.Reading.{Choice, Faulty, IsLayout, Layer}
use Rattle.dpl_layer.specs.View.{IsLayerFault, choice_view}
use Rattle.dpl_run.specs.View.{marks_with, output_view}
use Rattle.dpl_layer.specs.declared.fault.LayerFault.{LayerFault}
use Rattle.dpl_run.proofs.Checking.{first_faulty, masks_judged, second_faulty}
use Rattle.dpl_run.proofs.check.check_bytes.Goals as goal

pub returns-in-Err-Refused : goal.returns-in-Err-Refused
returns-in-Err-Refused c =
    let v = check_view c.args.options.now in
    let bytes = c.args.bytes.items in
    let told = rw c.as_slice.ensures.value at c.in-Err-Refused.ensures.fault in
    let own = subst (λ (e : LayerFault). IsLayerFault (choice_view c.mask_choice.result) bytes e) c.in-Err-Refused.field-0-is told in
    let fault : IsLayout (mask_choice v.a) bytes (Faulty c.in-Err-Refused.name c.in-Err-Refused.at) = subst
    (λ (h : Choice). IsLayout h bytes (Faulty c.in-Err-Refused.name c.in-Err-Refused.at)) c.mask_choice.ensures own in
    IfOk-weaker c.refused.result _ _
    (λ x h. first_faulty v (marks_with v c.args.layer.now) c.args.layer.now.slabs c.args.cert.now bytes c.in-Err-Refused.name c.in-Err-Refused.at
    (output_view x) c.requires.size fault h) c.refused.ensures

pub returns-in-Err-Refused-layer_of : goal.returns-in-Err-Refused-layer_of
returns-in-Err-Refused-layer_of c =
    let v = check_view c.args.options.now in
    let bytes = c.args.bytes.items in
    let a = c.in-Ok.a in
    let name = c.in-Err-Refused-layer_of.name in
    let at = c.in-Err-Refused-layer_of.at in
    let read = subst (λ (b : List ℕ). IsLayout (choice_view c.mask_choice.result) b (Layer a.copied.items a.slabs)) c.as_slice.ensures.value c.in-Ok.ensures.layer in
    let first : IsLayout (mask_choice v.a) bytes (Layer a.copied.items a.slabs) = subst
    (λ (h : Choice). IsLayout h bytes (Layer a.copied.items a.slabs)) c.mask_choice.ensures read in
    let own = subst (λ (e : LayerFault). IsLayerFault (choice_view c.mask_choice-2.result) bytes e) c.in-Err-Refused-layer_of.field-0-is c.in-Err-Refused-layer_of.ensures.fault in
    let fault : IsLayout (mask_choice v.b) bytes (Faulty name at) = subst (λ (h : Choice). IsLayout h bytes (Faulty name at)) c.mask_choice-2.ensures own in
    IfOk-weaker c.refused-in-Err-Refused-layer_of.result _ _
    (λ x h. second_faulty v (marks_with v c.args.layer.now) c.args.layer.now.slabs c.args.cert.now bytes a.copied.items a.slabs name at
    (output_view x) c.requires.size first fault h) c.refused-in-Err-Refused-layer_of.ensures

pub returns : goal.returns
returns c =
    let v = check_view c.args.options.now in
    let bytes = c.args.bytes.items in
    let a = c.in-Ok.a in
    let b = c.in-Ok-layer_of.b in
    let read = subst (λ (b : List ℕ). IsLayout (choice_view c.mask_choice.result) b (Layer a.copied.items a.slabs)) c.as_slice.ensures.value c.in-Ok.ensures.layer in
    let first : IsLayout (mask_choice v.a) bytes (Layer a.copied.items a.slabs) = subst
    (λ (h : Choice). IsLayout h bytes (Layer a.copied.items a.slabs)) c.mask_choice.ensures read in
    let second : IsLayout (mask_choice v.b) bytes (Layer b.copied.items b.slabs) = subst
    (λ (h : Choice). IsLayout h bytes (Layer b.copied.items b.slabs)) c.mask_choice-2.ensures c.in-Ok-layer_of.ensures.layer in
    let said = rw c.spacing_of-spacing.ensures at (c.in_ok-verdict.ensures (marks_with v c.args.layer.now) c.requires.marks) in
    IfOk-weaker c.judged.result _ _
    (λ x h. masks_judged v (marks_with v c.args.layer.now) c.args.layer.now.slabs c.args.cert.now bytes a.copied.items b.copied.items a.slabs b.slabs c.in_ok-verdict.verdict
    (output_view x) c.requires.size first second said h) c.judged.ensures

pub returns-in_err-verdict : goal.returns-in_err-verdict
returns-in_err-verdict c = IfOk-from_err _ _ c.from_residual.ensures.0
