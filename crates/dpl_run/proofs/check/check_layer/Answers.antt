use Rattle.std.proofs.Common.{subst, Option, List, ℕ, Global}
use Rattle.std.specs.Prelude.{Vec, option_map}
use Rattle.std.proofs.lemmas.Result.{IfOk-weaker, IfOk-from_err}
use Rattle.dpl_host.specs.Outside.{Outside}
use Rattle.dpl_cert.specs.Grammar.{IsText}
use Rattle.dpl_parse.specs.Reading.{IsBadLine, IsRefusal}
use Rattle.dpl_parse.specs.declared.fault.CertFault.{CertFault}
use Rattle.dpl_words.specs.Meaning.{check_view}
use Rattle.dpl_run.specs.Program.{IsMadeOfCert, IsSeen}
use Rattle.dpl_run.specs.View.{marks_with, output_view}
use Rattle.dpl_run.proofs.Checking.{cert_bad, cert_large, cert_read}
use Rattle.dpl_run.proofs.Calls.{cert_and_out}
use Rattle.dpl_run.proofs.check.check_layer.Goals as goal

pub returns-in_default-clause-made : goal.returns-in_default-clause-made
returns-in_default-clause-made g c =
    let told = g.H.Host.told c.args.host.now in
    let seen = subst (λ (o : Option (Vec ℕ Global)). IsSeen told c.args.options.now.certificate.now (option_map (λ v. v.items) o)) c.in_default.is c.in_ok-text.ensures.seen in
    cert_large told (check_view c.args.options.now) (marks_with (check_view c.args.options.now) c.args.layer.now) c.args.layer.now.slabs _ seen c.in_ok-too_large.ensures

pub returns-in-Ok-clause-made : goal.returns-in-Ok-clause-made
returns-in-Ok-clause-made g c =
    let told = g.H.Host.told c.args.host.now in
    let v = check_view c.args.options.now in
    let text = c.in-Some.text.items in
    let seen = subst (λ (o : Option (Vec ℕ Global)). IsSeen told c.args.options.now.certificate.now (option_map (λ v. v.items) o)) c.in-Some.is c.in_ok-text.ensures.seen in
    let read = subst (λ (b : List ℕ). IsText c.in-Ok.cert b) c.as_slice.ensures.value c.in-Ok.ensures.found in
    IfOk-weaker c.check_cert.result _ _
    (λ x h. cert_read told v (marks_with v c.args.layer.now) c.args.layer.now.slabs text c.in-Ok.cert (output_view x) seen read
    (subst (λ (t : Option Outside). IsMadeOfCert t v (marks_with v c.args.layer.now) c.args.layer.now.slabs c.in-Ok.cert (output_view x)) c.in_ok-text.ensures.same h)) c.check_cert.ensures.made

pub returns-in-Err-BadLine-clause-made : goal.returns-in-Err-BadLine-clause-made
returns-in-Err-BadLine-clause-made g c =
    let told = g.H.Host.told c.args.host.now in
    let text = c.in-Some.text.items in
    let seen = subst (λ (o : Option (Vec ℕ Global)). IsSeen told c.args.options.now.certificate.now (option_map (λ v. v.items) o)) c.in-Some.is c.in_ok-text.ensures.seen in
    let refusal = subst (λ (e : CertFault). IsRefusal c.as_slice.result.now e) c.in-Err-BadLine.field-0-is c.in-Err-BadLine.ensures.line in
    let bad = subst (λ (b : List ℕ). IsBadLine b c.in-Err-BadLine.line) c.as_slice.ensures.value refusal in
    cert_bad told (check_view c.args.options.now) (marks_with (check_view c.args.options.now) c.args.layer.now) c.args.layer.now.slabs text
    c.in-Err-BadLine.line _ seen bad c.in_ok-bad_line-in-Err-BadLine.ensures

pub returns-in-Ok-clause-calls : goal.returns-in-Ok-clause-calls
returns-in-Ok-clause-calls g c =
    let told = g.H.Host.told c.args.host.now in
    let text = c.in-Some.text.items in
    let seen = subst (λ (o : Option (Vec ℕ Global)). IsSeen told c.args.options.now.certificate.now (option_map (λ v. v.items) o)) c.in-Some.is c.in_ok-text.ensures.seen in
    let read = subst (λ (b : List ℕ). IsText c.in-Ok.cert b) c.as_slice.ensures.value c.in-Ok.ensures.found in
    cert_and_out (check_view c.args.options.now) text c.in-Ok.cert seen read c.in_ok-text.ensures.calls c.check_cert.ensures.calls

pub returns-in_err-text-clause-made : goal.returns-in_err-text-clause-made
returns-in_err-text-clause-made g c = IfOk-from_err _ _ c.from_residual.ensures.0

pub returns-in_err-too_large-clause-made : goal.returns-in_err-too_large-clause-made
returns-in_err-too_large-clause-made g c = IfOk-from_err _ _ c.from_residual-in_err-too_large.ensures.0

pub returns-in_err-bad_line-in-Err-BadLine-clause-made : goal.returns-in_err-bad_line-in-Err-BadLine-clause-made
returns-in_err-bad_line-in-Err-BadLine-clause-made g c = IfOk-from_err _ _ c.from_residual-in_err-bad_line-in-Err-BadLine.ensures.0
