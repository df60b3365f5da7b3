use Rattle.std.proofs.Common.{◌∙◌, inr}
use Rattle.clap.specs.Walk.{texts}
use Rattle.dpl_run.specs.View.{output_view}
use Rattle.dpl_run.proofs.Ends.{is_cut, is_outcome, none_failed}
use Rattle.dpl_run.proofs.Parting.{outcome_parted}
use Rattle.dpl_words.specs.Meaning.{request_of}
use Rattle.dpl_run.proofs.Usage.{usage_asked}
use Rattle.dpl_run.proofs.CallsOf.{calls_of_answer, calls_of_none, calls_of_part}
use Rattle.dpl_run.proofs.program.run.Goals as goal

pub returns-in-Ok-perform-clause-answer : goal.returns-in-Ok-perform-clause-answer
returns-in-Ok-perform-clause-answer g c = λ _. is_outcome (texts c.args.words.now) (output_view c.in-Ok.output)
    (g.H.Host.told c.args.host.now) (g.H.Host.told c.made.new.host) (g.H.Host.told c.perform.new.host)
    c.in-Ok.ensures.made c.in-Ok.ensures.same c.in-Ok-perform.ensures.ok

pub returns-in-Ok-perform-clause-complete : goal.returns-in-Ok-perform-clause-complete
returns-in-Ok-perform-clause-complete g c = λ _ _. inr (is_outcome (texts c.args.words.now) (output_view c.in-Ok.output)
    (g.H.Host.told c.args.host.now) (g.H.Host.told c.made.new.host) (g.H.Host.told c.perform.new.host)
    c.in-Ok.ensures.made c.in-Ok.ensures.same c.in-Ok-perform.ensures.ok)

pub returns-in-Ok-clause-cut : goal.returns-in-Ok-clause-cut
returns-in-Ok-clause-cut g c = λ _. is_cut (texts c.args.words.now) (output_view c.in-Ok.output) (g.H.Host.told c.args.host.now)
    (g.H.Host.told c.made.new.host) (g.H.Host.told c.perform.new.host)
    c.in-Ok.ensures.made c.in-Ok.ensures.same c.in-Err-perform.ensures.err

pub returns-in-Ok-perform-clause-parted : goal.returns-in-Ok-perform-clause-parted
returns-in-Ok-perform-clause-parted g c = outcome_parted (texts c.args.words.now) c.in-Ok.output.status (g.H.Host.told c.args.host.now)
    (g.H.Host.told c.perform.new.host) (is_outcome (texts c.args.words.now) (output_view c.in-Ok.output) (g.H.Host.told c.args.host.now)
    (g.H.Host.told c.made.new.host) (g.H.Host.told c.perform.new.host)
    c.in-Ok.ensures.made c.in-Ok.ensures.same c.in-Ok-perform.ensures.ok)

pub returns-in-Ok-perform-clause-faults : goal.returns-in-Ok-perform-clause-faults
returns-in-Ok-perform-clause-faults g c = none_failed c.in-Ok.output.status _ _ _ _ c.in-Ok.ensures.made.3 (c.in-Ok-perform.ensures.others
    ∙ c.in-Ok.ensures.worked) (c.in-Ok-perform.ensures.cause.worked ∙ c.in-Ok.ensures.others)

pub returns-in-Ok-perform-clause-calls : goal.returns-in-Ok-perform-clause-calls
returns-in-Ok-perform-clause-calls g c = calls_of_answer (texts c.args.words.now) (g.H.Host.told c.args.host.now) (output_view c.in-Ok.output)
    c.in-Ok.ensures.made c.in-Ok.ensures.calls c.in-Ok-perform.ensures.calls

pub returns-in-Ok-clause-calls : goal.returns-in-Ok-clause-calls
returns-in-Ok-clause-calls g c = calls_of_part (texts c.args.words.now) (g.H.Host.told c.args.host.now) (output_view c.in-Ok.output)
    c.in-Ok.ensures.made c.in-Ok.ensures.calls c.in-Err-perform.ensures.begun

pub returns-clause-calls : goal.returns-clause-calls
returns-clause-calls g c = calls_of_none (texts c.args.words.now) (g.H.Host.told c.args.host.now) c.in-Err.status c.in-Err.ensures.only c.in-Err.ensures.calls

pub returns-in-Ok-perform-clause-usage : goal.returns-in-Ok-perform-clause-usage
returns-in-Ok-perform-clause-usage g c =
    usage_asked (request_of (texts c.args.words.now)) (g.H.Host.told c.args.host.now) (output_view c.in-Ok.output) c.in-Ok.ensures.made
