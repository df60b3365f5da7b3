use Rattle.std.proofs.Common.{subst, sym}
use Rattle.std.proofs.lemmas.Result.{IfOk-weaker}
use Rattle.dpl_words.specs.Meaning.{demo_view}
use Rattle.dpl_run.specs.Demo.{IsDemo}
use Rattle.dpl_run.specs.Outcome.{Outcome}
use Rattle.dpl_run.specs.View.{output_view}
use Rattle.dpl_run.proofs.Calls.{no_calls}
use Rattle.dpl_run.proofs.Inputs.{demo_made}
use Rattle.dpl_run.proofs.program.output_of.Goals as goal

pub returns-in-Split-clause-made : goal.returns-in-Split-clause-made
returns-in-Split-clause-made g c = rw c.in-Split.is c.split_output.ensures.made

pub returns-in-Check-clause-made : goal.returns-in-Check-clause-made
returns-in-Check-clause-made g c = rw c.in-Check.is c.check_output.ensures.made

pub returns-in_ok-demo_output-in-Demo-clause-made : goal.returns-in_ok-demo_output-in-Demo-clause-made
returns-in_ok-demo_output-in-Demo-clause-made g c = rw c.in-Demo.is (IfOk-weaker c.read_nothing.result _ _
    (λ x is. demo_made (g.H.Host.told c.args.host.now) (demo_view c.in-Demo.options) (output_view x)
    (subst (λ (y : Outcome). IsDemo (demo_view c.in-Demo.options) y) (sym is) c.in_ok-demo_output-in-Demo.ensures)) c.read_nothing.ensures.made)

pub returns-in-Split-clause-calls : goal.returns-in-Split-clause-calls
returns-in-Split-clause-calls g c = rw c.in-Split.is c.split_output.ensures.calls

pub returns-in-Check-clause-calls : goal.returns-in-Check-clause-calls
returns-in-Check-clause-calls g c = rw c.in-Check.is c.check_output.ensures.calls

pub returns-in_ok-demo_output-in-Demo-clause-calls : goal.returns-in_ok-demo_output-in-Demo-clause-calls
returns-in_ok-demo_output-in-Demo-clause-calls g c = rw c.in-Demo.is c.read_nothing.ensures.calls

pub returns-in_err-demo_output-in-Demo-clause-calls : goal.returns-in_err-demo_output-in-Demo-clause-calls
returns-in_err-demo_output-in-Demo-clause-calls g c = rw c.in-Demo.is no_calls

pub returns-in-Batch-clause-made : goal.returns-in-Batch-clause-made
returns-in-Batch-clause-made g c = rw c.in-Batch.is c.batch_output.ensures.made

pub returns-in-Batch-clause-calls : goal.returns-in-Batch-clause-calls
returns-in-Batch-clause-calls g c = rw c.in-Batch.is c.batch_output.ensures.calls

pub returns-in-Edit-clause-made : goal.returns-in-Edit-clause-made
returns-in-Edit-clause-made g c = rw c.in-Edit.is c.edit_output.ensures.made

pub returns-in-Edit-clause-calls : goal.returns-in-Edit-clause-calls
returns-in-Edit-clause-calls g c = rw c.in-Edit.is c.edit_output.ensures.calls
