use Rattle.std.proofs.lemmas.Result.{IfOk-weaker, IfOk-from_err}
use Rattle.dpl_check.proofs.Claiming.{nothing-on-masks, found-on-masks}
use Rattle.dpl_check.specs.Claims.{claim_view}
use Rattle.dpl_check.proofs.masks.verdict_from_overlap.Goals as goal

pub returns-in-Some : goal.returns-in-Some
returns-in-Some c = λ marks are.
    found-on-masks marks c.args.claim.now.spacing c.args.claim.now.overlap (claim_view c.args.claim.now) c.in-Some.verdict
    (rw c.in-Some.is at c.in_ok-verdict.ensures)

pub returns : goal.returns
returns c = λ marks are.
    let nothing = rw c.in_default.is at c.in_ok-verdict.ensures in
    IfOk-weaker c.verdict_from_marked.result _ _ (λ verdict told. nothing-on-masks marks c.args.claim.now.spacing c.args.claim.now.overlap
    (claim_view c.args.claim.now) verdict nothing told) (c.verdict_from_marked.ensures marks are)

pub returns-in_err-both : goal.returns-in_err-both
returns-in_err-both c = λ marks are. IfOk-from_err _ _ c.from_residual.ensures.0

pub returns-in_err-verdict : goal.returns-in_err-verdict
returns-in_err-verdict c = λ marks are. IfOk-from_err _ _ c.from_residual-in_err-verdict.ensures.0
