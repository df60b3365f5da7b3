use Rattle.std.proofs.Common.{ap}
use Rattle.std.specs.Prelude.{Err}
use Rattle.clap.specs.Walk.{texts}
use Rattle.dpl_words.specs.Meaning.{request_of, request_view}
use Rattle.dpl_run.specs.View.{output_view}
use Rattle.dpl_run.proofs.Calls.{reads_of_words, unread}
use Rattle.dpl_run.proofs.Ends.{of_no_words, of_words}
use Rattle.dpl_run.proofs.Inputs.{usage_made}
use Rattle.dpl_run.proofs.program.made.Goals as goal

pub returns-in-Ok-output_of-clause-made : goal.returns-in-Ok-output_of-clause-made
returns-in-Ok-output_of-clause-made g c = of_words (request_view c.in-Ok.request) (texts c.args.words.now) (g.H.Host.told c.args.host.now)
    (output_view c.in-Ok-output_of.output) c.in-Ok.ensures.read c.in-Ok-output_of.ensures.made

pub returns-in-Ok-usage-clause-made : goal.returns-in-Ok-usage-clause-made
returns-in-Ok-usage-clause-made g c = of_no_words (texts c.args.words.now) (g.H.Host.told c.args.host.now)
    (output_view c.in-Ok-usage.output) (c.in-Err-Usage.ensures.usage (ap Err c.in-Err-Usage.field-0-is))
    (usage_made (g.H.Host.told c.args.host.now) (output_view c.in-Ok-usage.output) c.in-Ok-usage.ensures)

pub returns-in-Ok-output_of-clause-calls : goal.returns-in-Ok-output_of-clause-calls
returns-in-Ok-output_of-clause-calls g c = reads_of_words (request_of (texts c.args.words.now)) (request_view c.in-Ok.request) (g.H.Host.told c.args.host.now)
    c.in-Ok.ensures.read c.output_of.ensures.calls

pub returns-in-Err-Failed-clause-calls : goal.returns-in-Err-Failed-clause-calls
returns-in-Err-Failed-clause-calls g c = reads_of_words (request_of (texts c.args.words.now)) (request_view c.in-Ok.request) (g.H.Host.told c.args.host.now)
    c.in-Ok.ensures.read c.output_of.ensures.calls

pub returns-in-Ok-usage-clause-calls : goal.returns-in-Ok-usage-clause-calls
returns-in-Ok-usage-clause-calls g c = unread (request_of (texts c.args.words.now)) (g.H.Host.told c.args.host.now)

pub returns-in-Err-Usage-clause-calls : goal.returns-in-Err-Usage-clause-calls
returns-in-Err-Usage-clause-calls g c = unread (request_of (texts c.args.words.now)) (g.H.Host.told c.args.host.now)

pub returns-clause-calls : goal.returns-clause-calls
returns-clause-calls g c = unread (request_of (texts c.args.words.now)) (g.H.Host.told c.args.host.now)
