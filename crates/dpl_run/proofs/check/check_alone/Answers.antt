use Rattle.std.proofs.lemmas.Result.{IfOk-weaker, IfOk-from_err}
use Rattle.std.proofs.Common.{subst}
use Rattle.dpl_spec_verdict.specs.Conflicts.{IsOfConflict, IsVerdictOfConflict}
use Rattle.dpl_words.specs.Meaning.{check_view}
use Rattle.dpl_layer.specs.Marked.{MarkedChoice}
use Rattle.dpl_run.specs.Check.{check_spacing}
use Rattle.dpl_decide.specs.Deciding.{marks_for}
use Rattle.dpl_run.specs.View.{marks_with, output_view}
use Rattle.dpl_run.proofs.Checking.{cycle_checked, fault_checked}
use Rattle.dpl_run.proofs.check.check_alone.Goals as goal

pub unreachable-requires : goal.unreachable-requires
unreachable-requires c = (rw c.in-Masks.is at c.requires.kind) tt

pub check_conflict-requires-clause-kind : goal.check_conflict-requires-clause-kind
check_conflict-requires-clause-kind c = rw c.in-Conflict.is tt

pub returns-in_ok-verdict-in-Conflict : goal.returns-in_ok-verdict-in-Conflict
returns-in_ok-verdict-in-Conflict c =
    let kind : IsOfConflict c.args.cert.now = rw c.in-Conflict.is tt in
    let v = check_view c.args.options.now in
    let layer = c.args.layer.now in
    let verdict = c.in_ok-verdict-in-Conflict.verdict in
    let told = rw (c.spacing_of-spacing.ensures, c.has_markers.ensures) at c.in_ok-verdict-in-Conflict.ensures in
    let said : IsVerdictOfConflict (marks_with v layer) (check_spacing v) v.overlap layer.slabs c.args.cert.now verdict = subst
    (λ (h : MarkedChoice). IsVerdictOfConflict (marks_for h layer.mark_a layer.mark_b) (check_spacing v) v.overlap layer.slabs c.args.cert.now verdict)
    c.choice_of.ensures told in
    IfOk-weaker c.judged.result _ _
    (λ x is out. cycle_checked v (marks_with v layer) layer.slabs out c.args.cert.now verdict
    (output_view x) kind said is) c.judged.ensures

pub returns-in-Fault : goal.returns-in-Fault
returns-in-Fault c = IfOk-weaker c.judged-in-Fault.result _ _
    (λ x is out. fault_checked (check_view c.args.options.now) (marks_with (check_view c.args.options.now) c.args.layer.now) c.args.layer.now.slabs out c.args.cert.now c.in-Fault.name c.in-Fault.at
    (output_view x) c.in-Fault.is is) c.judged-in-Fault.ensures

pub returns-in_err-verdict-in-Conflict : goal.returns-in_err-verdict-in-Conflict
returns-in_err-verdict-in-Conflict c = IfOk-from_err _ _ c.from_residual.ensures.0
