use Rattle.std.proofs.Common.{refl, inl, inr}
use Rattle.std.proofs.lemmas.Result.{IfOk-weaker, IfOk-from_err}
use Rattle.dpl_check.proofs.Sets.{count-kept, count-differs}
use Rattle.dpl_check.proofs.masks.verdict_from_counts.Goals as goal

pub returns-then-items-claim : goal.returns-then-items-claim
returns-then-items-claim c = λ marks are.
    IfOk-weaker c.counts.result _ _ (λ verdict told. inl (
      (count-differs c.args.claim.now.layer.now c.in_ok-features.features c.items.result.now c.args.claim.now.head.now c.in_ok-features.ensures
          c.items.ensures.value c.if-items-claim.true),
      told,
    ))
    (c.counts.ensures marks are)

pub returns-in-Some : goal.returns-in-Some
returns-in-Some c = λ marks are.
    let kept = count-kept c.args.claim.now.layer.now c.in_ok-features.features c.items.result.now c.args.claim.now.head.now c.in_ok-features.ensures
    c.items.ensures.value c.if-items-claim.false in
    let found = rw c.in-Some.is at c.in_ok-at.ensures in
    inr (kept, inl ((c.in-Some.at, found.inside), (c.in-Some.at, found, refl)))

pub verdict_from_overlap-requires-clause-covered : goal.verdict_from_overlap-requires-clause-covered
verdict_from_overlap-requires-clause-covered c = rw c.in_default.is at c.in_ok-at.ensures

pub returns : goal.returns
returns c = λ marks are.
    let kept = count-kept c.args.claim.now.layer.now c.in_ok-features.features c.items.result.now c.args.claim.now.head.now c.in_ok-features.ensures
    c.items.ensures.value c.if-items-claim.false in
    let cover = rw c.in_default.is at c.in_ok-at.ensures in
    IfOk-weaker c.verdict_from_overlap.result _ _ (λ verdict told. inr (kept, inr (cover, told))) (c.verdict_from_overlap.ensures marks are)

pub returns-in_err-features : goal.returns-in_err-features
returns-in_err-features c = λ marks are. IfOk-from_err _ _ c.from_residual.ensures.0

pub returns-in_err-at : goal.returns-in_err-at
returns-in_err-at c = λ marks are. IfOk-from_err _ _ c.from_residual-in_err-at.ensures.0
