use Rattle.std.proofs.Common.{subst, Option, List, ℕ, Global}
use Rattle.std.proofs.lemmas.Result.{IfOk-from_err}
use Rattle.std.specs.Prelude.{Vec, option_map}
use Rattle.dpl_spec_edits.specs.Text.{IsEdit, IsFirstBad, IsListed}
use Rattle.dpl_edits.specs.Reading.{IsRefusal}
use Rattle.dpl_edits.specs.declared.reading.EditsFault.{EditsFault}
use Rattle.dpl_words.specs.Meaning.{edit_view}
use Rattle.dpl_check.proofs.Finding.{all-items}
use Rattle.dpl_run.specs.Program.{IsSeen}
use Rattle.dpl_run.proofs.Edits.{edits_bad, edits_large, edits_read}
use Rattle.dpl_run.proofs.edit.edit_layer.Goals as goal

pub returns-in_default-clause-made : goal.returns-in_default-clause-made
returns-in_default-clause-made g c =
    let told = g.H.Host.told c.args.host.now in
    let layer = c.args.layer in
    let seen = subst (λ (o : Option (Vec ℕ Global)). IsSeen told c.args.options.now.edits.now (option_map (λ v. v.items) o)) c.in_default.is c.in_ok-text.ensures.seen in
    edits_large told (edit_view c.args.options.now) layer.copied.items layer.slabs _ seen c.in_ok-too_large.ensures

pub edit_by-requires-clause-edits : goal.edit_by-requires-clause-edits
edit_by-requires-clause-edits g c = λ _ _. all-items IsEdit c.in-Ok.edits.items c.in-Ok.ensures.found.each

pub returns-in-Ok-clause-made : goal.returns-in-Ok-clause-made
returns-in-Ok-clause-made g c =
    let told = g.H.Host.told c.args.host.now in
    let layer = c.args.layer in
    let text = c.in-Some.text.items in
    let seen = subst (λ (o : Option (Vec ℕ Global)). IsSeen told c.args.options.now.edits.now (option_map (λ v. v.items) o)) c.in-Some.is c.in_ok-text.ensures.seen in
    let listed = subst (λ (b : List ℕ). IsListed c.in-Ok.edits.items b) c.as_slice.ensures.value c.in-Ok.ensures.found in
    edits_read told (edit_view c.args.options.now) layer.copied.items layer.slabs text c.in-Ok.edits.items _ seen listed c.in_ok-edit_by-in-Ok.ensures

pub returns-in-Err-BadLine-clause-made : goal.returns-in-Err-BadLine-clause-made
returns-in-Err-BadLine-clause-made g c =
    let told = g.H.Host.told c.args.host.now in
    let layer = c.args.layer in
    let text = c.in-Some.text.items in
    let seen = subst (λ (o : Option (Vec ℕ Global)). IsSeen told c.args.options.now.edits.now (option_map (λ v. v.items) o)) c.in-Some.is c.in_ok-text.ensures.seen in
    let refusal = subst (λ (e : EditsFault). IsRefusal c.as_slice.result.now e) c.in-Err-BadLine.field-0-is c.in-Err-BadLine.ensures.line in
    let bad = subst (λ (b : List ℕ). IsFirstBad b c.in-Err-BadLine.line) c.as_slice.ensures.value refusal in
    edits_bad told (edit_view c.args.options.now) layer.copied.items layer.slabs text c.in-Err-BadLine.line _ seen bad c.in_ok-bad_line-in-Err-BadLine.ensures

pub returns-in_err-text-clause-made : goal.returns-in_err-text-clause-made
returns-in_err-text-clause-made g c = IfOk-from_err _ _ c.from_residual.ensures.0

pub returns-in_err-too_large-clause-made : goal.returns-in_err-too_large-clause-made
returns-in_err-too_large-clause-made g c = IfOk-from_err _ _ c.from_residual-in_err-too_large.ensures.0

pub returns-in_err-edit_by-in-Ok-clause-made : goal.returns-in_err-edit_by-in-Ok-clause-made
returns-in_err-edit_by-in-Ok-clause-made g c = IfOk-from_err _ _ c.from_residual-in_err-edit_by-in-Ok.ensures.0

pub returns-in_err-bad_line-in-Err-BadLine-clause-made : goal.returns-in_err-bad_line-in-Err-BadLine-clause-made
returns-in_err-bad_line-in-Err-BadLine-clause-made g c = IfOk-from_err _ _ c.from_residual-in_err-bad_line-in-Err-BadLine.ensures.0
