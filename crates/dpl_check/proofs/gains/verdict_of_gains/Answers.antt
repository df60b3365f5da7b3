use Rattle.std.proofs.Common.{List, Option, sym, subst}
use Rattle.std.proofs.lemmas.Result.{IfOk-weaker, IfOk-from_err}
use Rattle.dpl_cert.specs.declared.cert.Gain.{Gain}
use Rattle.dpl_spec_verdict.specs.Gains.{letters, VerdictOfGains}
use Rattle.dpl_piece.specs.View.{cut_view}
use Rattle.dpl_check.proofs.Counting.{marked-united}
use Rattle.dpl_check.proofs.gains.verdict_of_gains.Goals as goal

pub returns : goal.returns
returns c = λ marks are.
    let set = marked-united c.args.mark_a.now c.args.mark_b.now c.in_ok-marked.marked marks c.in_ok-marked.ensures are in
    let (features, many, is) = c.in_ok-cut.ensures marks set in
    IfOk-weaker c.verdict_by_cut.result _ _ (λ verdict told.
    let by_lines = rw c.items.ensures at told in
    subst (λ (x : Option (List Gain)). VerdictOfGains marks c.args.spacing c.args.overlap c.args.layer.now c.args.head.now (letters c.args.pieces.now) x verdict) (sym c.in-Some.is)
    (cut_view features c.in_ok-cut.cut.pieces, is, by_lines))
    (c.verdict_by_cut.ensures features marks set)

pub returns-in_err-marked : goal.returns-in_err-marked
returns-in_err-marked c = λ marks are. IfOk-from_err _ _ c.from_residual.ensures.0

pub returns-in_err-cut : goal.returns-in_err-cut
returns-in_err-cut c = λ marks are. IfOk-from_err _ _ c.from_residual-in_err-cut.ensures.0
