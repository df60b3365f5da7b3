use Rattle.std.proofs.Common.{refl, inl, inr}
use Rattle.std.proofs.lemmas.Result.{IfOk-weaker, IfOk-from_err}
use Rattle.dpl_check.proofs.Claiming.{nothing-by-marks, found-by-marks}
use Rattle.dpl_check.specs.Claims.{claim_view}
use Rattle.dpl_check.proofs.masks.verdict_from_marked.Goals as goal

pub returns-in-Some : goal.returns-in-Some
returns-in-Some c = λ marks are.
    found-by-marks marks c.args.claim.now.spacing c.args.claim.now.overlap (claim_view c.args.claim.now) c.in-Some.verdict
    (rw c.in-Some.is at (c.in_ok-verdict.ensures marks are))

pub returns-in-Some-2 : goal.returns-in-Some-2
returns-in-Some-2 c = λ marks are.
    let nothing = rw c.in_default.is at (c.in_ok-verdict.ensures marks are) in
    let found = rw c.in-Some-2.is at c.in_ok-index.ensures in
    nothing-by-marks marks c.args.claim.now.spacing c.args.claim.now.overlap (claim_view c.args.claim.now) _ nothing
    (inl ((c.in-Some-2.index, found.inside, found.is), (c.in-Some-2.index, found, refl)))

pub returns : goal.returns
returns c = λ marks are.
    let nothing = rw c.in_default.is at (c.in_ok-verdict.ensures marks are) in
    let named = rw c.in_default-2.is at c.in_ok-index.ensures in
    IfOk-weaker c.verdict_of_gains.result _ _ (λ verdict told. nothing-by-marks marks c.args.claim.now.spacing c.args.claim.now.overlap
    (claim_view c.args.claim.now) verdict nothing (inr (named, told))) (c.verdict_of_gains.ensures marks are)

pub returns-in_err-verdict : goal.returns-in_err-verdict
returns-in_err-verdict c = λ marks are. IfOk-from_err _ _ c.from_residual.ensures.0

pub returns-in_err-index : goal.returns-in_err-index
returns-in_err-index c = λ marks are. IfOk-from_err _ _ c.from_residual-in_err-index.ensures.0
