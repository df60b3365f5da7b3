use Rattle.std.proofs.Common.{subst, Option, ℕ, Global}
use Rattle.std.proofs.lemmas.Result.{IfOk-from_err}
use Rattle.std.specs.Prelude.{Vec, option_map}
use Rattle.dpl_words.specs.Meaning.{batch_view}
use Rattle.dpl_run.specs.Program.{IsInput}
use Rattle.dpl_run.proofs.Batches.{batch_made, batch_refused}
use Rattle.dpl_decide.proofs.Zips.{zip_length}
use Rattle.dpl_run.proofs.batch.batch_output.Goals as goal

pub returns-in_ok-batch-in-Ok-Some-clause-made : goal.returns-in_ok-batch-in-Ok-Some-clause-made
returns-in_ok-batch-in-Ok-Some-clause-made g c =
    let v = batch_view c.args.options.now in
    let told = g.H.Host.told c.args.host.now in
    let read = subst (λ (o : Option (Vec ℕ Global)). IsInput told c.args.options.now.input.now (option_map (λ v. v.items) o)) c.in-Ok-Some.field-0-is c.in-Ok-Some.ensures.read in
    batch_made told v c.in-Ok-Some.bytes.items _ read c.in_ok-batch-in-Ok-Some.ensures

pub all_decided-requires-clause-len : goal.all_decided-requires-clause-len
all_decided-requires-clause-len g c κs l = zip_length _ _ _ (rw c.deref.ensures.value at c.in_ok-decisions-in-Ok-None.ensures.0)

pub returns-in_ok-all_decided-in-Ok-None-clause-made : goal.returns-in_ok-all_decided-in-Ok-None-clause-made
returns-in_ok-all_decided-in-Ok-None-clause-made g c =
    let told = g.H.Host.told c.args.host.now in
    let read = subst (λ (o : Option (Vec ℕ Global)). IsInput told c.args.options.now.input.now (option_map (λ v. v.items) o)) c.in-Ok-None.field-0-is c.in-Ok-None.ensures.read in
    let refused = rw c.deref.ensures.value at c.in_ok-decisions-in-Ok-None.ensures in
    batch_refused told (batch_view c.args.options.now) c.in_ok-decisions-in-Ok-None.decisions.items _ read refused c.in_ok-all_decided-in-Ok-None.ensures

pub returns-in_err-batch-in-Ok-Some-clause-made : goal.returns-in_err-batch-in-Ok-Some-clause-made
returns-in_err-batch-in-Ok-Some-clause-made g c = IfOk-from_err _ _ c.from_residual.ensures.0

pub returns-in_err-decisions-in-Ok-None-clause-made : goal.returns-in_err-decisions-in-Ok-None-clause-made
returns-in_err-decisions-in-Ok-None-clause-made g c = IfOk-from_err _ _ c.from_residual-in_err-decisions-in-Ok-None.ensures.0

pub returns-in_err-all_decided-in-Ok-None-clause-made : goal.returns-in_err-all_decided-in-Ok-None-clause-made
returns-in_err-all_decided-in-Ok-None-clause-made g c = IfOk-from_err _ _ c.from_residual-in_err-all_decided-in-Ok-None.ensures.0
