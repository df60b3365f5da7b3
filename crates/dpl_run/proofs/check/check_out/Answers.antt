use Rattle.std.proofs.Common.{subst, Option, ℕ, Global}
use Rattle.std.proofs.lemmas.Result.{IfOk-from_err}
use Rattle.std.specs.Prelude.{Vec, option_map}
use Rattle.dpl_words.specs.Meaning.{check_view}
use Rattle.dpl_run.specs.Program.{IsSeen}
use Rattle.dpl_run.specs.View.{marks_with}
use Rattle.dpl_run.proofs.Checking.{out_large, out_read}
use Rattle.dpl_run.proofs.check.check_out.Goals as goal

pub returns-in_default-clause-made : goal.returns-in_default-clause-made
returns-in_default-clause-made g c =
    let told = g.H.Host.told c.args.host.now in
    let seen = subst (λ (o : Option (Vec ℕ Global)). IsSeen told c.args.options.now.output.now (option_map (λ v. v.items) o)) c.in_default.is c.in_ok-bytes.ensures.seen in
    out_large told (check_view c.args.options.now) (marks_with (check_view c.args.options.now) c.args.layer.now)
    c.args.layer.now.slabs c.args.cert.now _ c.requires.kind seen c.in_ok-too_large.ensures

pub returns-clause-made : goal.returns-clause-made
returns-clause-made g c =
    let told = g.H.Host.told c.args.host.now in
    let v = check_view c.args.options.now in
    let seen = subst (λ (o : Option (Vec ℕ Global)). IsSeen told c.args.options.now.output.now (option_map (λ v. v.items) o)) c.in-Some.is c.in_ok-bytes.ensures.seen in
    out_read told v (marks_with v c.args.layer.now) c.args.layer.now.slabs c.args.cert.now c.in-Some.bytes.items _ c.requires.kind seen c.in_ok-check_bytes.ensures

pub returns-in_err-bytes-clause-made : goal.returns-in_err-bytes-clause-made
returns-in_err-bytes-clause-made g c = IfOk-from_err _ _ c.from_residual.ensures.0

pub returns-in_err-too_large-clause-made : goal.returns-in_err-too_large-clause-made
returns-in_err-too_large-clause-made g c = IfOk-from_err _ _ c.from_residual-in_err-too_large.ensures.0

pub returns-in_err-check_bytes-clause-made : goal.returns-in_err-check_bytes-clause-made
returns-in_err-check_bytes-clause-made g c = IfOk-from_err _ _ c.from_residual-in_err-check_bytes.ensures.0
