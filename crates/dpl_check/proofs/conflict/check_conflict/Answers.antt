use Rattle.std.proofs.Common.{sym, inr, subst}
use Rattle.std.proofs.lemmas.Result.{IfOk-weaker, IfOk-from_err}
use Rattle.std.proofs.lemmas.Bool.{false≢true}
use Rattle.dpl_spec_split.specs.Marks.{asked}
use Rattle.dpl_cert.specs.declared.cert.Cert.{Cert}
use Rattle.dpl_spec_verdict.specs.Conflicts.{IsVerdictOfConflict}
use Rattle.dpl_check.proofs.Counting.{verdict-by-cut}
use Rattle.dpl_check.proofs.conflict.check_conflict.Goals as goal

pub returns : goal.returns
returns c =
    let marks = asked c.args.marks c.args.mark_a.now c.args.mark_b.now in
    let (features, many, is) = c.in_ok-cut.ensures in
    IfOk-weaker c.verdict_by_cut.result _ _ (λ verdict told.
    let by_lines = rw (c.items-cycle.ensures, c.items-near.ensures) at told in
    subst (λ (x : Cert). IsVerdictOfConflict marks c.args.spacing c.args.overlap c.args.layer.now x verdict) (sym c.in-Conflict.is)
    (inr (
      (λ differ. false≢true (c.if-rules_differ.ensures.1 differ)),
      verdict-by-cut marks c.args.spacing c.args.overlap (record { layer = c.args.layer.now; head = c.in-Conflict.head; cycle = c.in-Conflict.cycle; near = c.in-Conflict.near })
          c.in_ok-cut.cut features many is verdict by_lines,
    )))
    (c.verdict_by_cut.ensures c.args.layer.now)

pub returns-in_err-cut : goal.returns-in_err-cut
returns-in_err-cut c = IfOk-from_err _ _ c.from_residual.ensures.0
