use Rattle.dpl_words.specs.Meaning.{check_view}
use Rattle.dpl_run.specs.View.{marks_with}
use Rattle.dpl_run.proofs.Checking.{alone_made}
use Rattle.dpl_run.proofs.Calls.{out_reads, out_unread}
use Rattle.dpl_run.proofs.check.check_cert.Goals as goal

pub check_out-requires-clause-kind : goal.check_out-requires-clause-kind
check_out-requires-clause-kind g c = rw c.if-needs_masks.true at c.needs_masks.ensures

pub returns-then-needs_masks-clause-calls : goal.returns-then-needs_masks-clause-calls
returns-then-needs_masks-clause-calls g c = out_reads (rw c.if-needs_masks.true at c.needs_masks.ensures) c.check_out.ensures.calls

pub check_alone-requires-clause-kind : goal.check_alone-requires-clause-kind
check_alone-requires-clause-kind g c = rw c.if-needs_masks.false at c.needs_masks.ensures

pub returns-clause-made : goal.returns-clause-made
returns-clause-made g c = alone_made (g.H.Host.told c.args.host.now) (check_view c.args.options.now)
    (marks_with (check_view c.args.options.now) c.args.layer.now) c.args.layer.now.slabs c.args.cert.now _
    (rw c.if-needs_masks.false at c.needs_masks.ensures) c.in_ok-check_alone.ensures

pub returns-clause-calls : goal.returns-clause-calls
returns-clause-calls g c = out_unread

pub returns-in_err-check_alone-clause-calls : goal.returns-in_err-check_alone-clause-calls
returns-in_err-check_alone-clause-calls g c = out_unread
