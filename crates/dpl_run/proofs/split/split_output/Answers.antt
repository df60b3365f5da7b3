use Rattle.std.proofs.Common.{subst, Option, ℕ, Global}
use Rattle.std.specs.Prelude.{Vec, option_map}
use Rattle.dpl_words.specs.Meaning.{split_view}
use Rattle.dpl_run.specs.Program.{IsInput}
use Rattle.dpl_run.proofs.Inputs.{split_made, split_refused}
use Rattle.dpl_run.proofs.split.split_output.Goals as goal

pub returns-in_ok-split-in-Ok-Some-clause-made : goal.returns-in_ok-split-in-Ok-Some-clause-made
returns-in_ok-split-in-Ok-Some-clause-made g c =
    let v = split_view c.args.options.now in
    let told = g.H.Host.told c.args.host.now in
    let read = subst (λ (o : Option (Vec ℕ Global)). IsInput told c.args.options.now.input.now (option_map (λ v. v.items) o)) c.in-Ok-Some.field-0-is c.in-Ok-Some.ensures.read in
    split_made told v c.in-Ok-Some.bytes.items _ read c.in_ok-split-in-Ok-Some.ensures

pub returns-in_ok-fault_output-in-Ok-None-clause-made : goal.returns-in_ok-fault_output-in-Ok-None-clause-made
returns-in_ok-fault_output-in-Ok-None-clause-made g c =
    let told = g.H.Host.told c.args.host.now in
    let read = subst (λ (o : Option (Vec ℕ Global)). IsInput told c.args.options.now.input.now (option_map (λ v. v.items) o)) c.in-Ok-None.field-0-is c.in-Ok-None.ensures.read in
    split_refused told (split_view c.args.options.now) _ read c.in_ok-fault_output-in-Ok-None.ensures
