use Rattle.std.proofs.Common.{refl, inl, inr, Some, None}
use Rattle.std.proofs.lemmas.Result.{IfOk-from_err}
use Rattle.dpl_check.proofs.Sets.{a-inside, b-inside, least-doubled}
use Rattle.dpl_check.proofs.masks.broken_on_masks.Goals as goal

pub too_close-requires-clause-inside : goal.too_close-requires-clause-inside
too_close-requires-clause-inside c = a-inside c.args.claim.now.layer.now c.args.claim.now.a.now c.args.claim.now.b.now c.requires.covered

pub too_close-requires-2-clause-inside : goal.too_close-requires-2-clause-inside
too_close-requires-2-clause-inside c = b-inside c.args.claim.now.layer.now c.args.claim.now.a.now c.args.claim.now.b.now c.requires.covered

pub returns-in-Some : goal.returns-in-Some
returns-in-Some c =
    let least = rw c.in-Some.is at c.in_ok-at.ensures in
    let found = least-doubled c.args.claim.now.a.now c.args.claim.now.b.now c.args.both.now c.args.claim.now.stitches.now (Some c.in-Some.at)
    c.requires.both least in
    inl ((c.in-Some.at, found.inside), (c.in-Some.at, found, refl))

pub returns-in-Some-2 : goal.returns-in-Some-2
returns-in-Some-2 c =
    let unlisted = rw c.in_default.is at c.in_ok-at.ensures in
    let listed = least-doubled c.args.claim.now.a.now c.args.claim.now.b.now c.args.both.now c.args.claim.now.stitches.now None c.requires.both unlisted in
    let found = rw c.in-Some-2.is at c.in_ok-first.ensures in
    inr (listed, inl ((c.in-Some-2.first, c.in-Some-2.second, found.are), (c.in-Some-2.first, c.in-Some-2.second, found, refl)))

pub returns-in-Some-3 : goal.returns-in-Some-3
returns-in-Some-3 c =
    let unlisted = rw c.in_default.is at c.in_ok-at.ensures in
    let listed = least-doubled c.args.claim.now.a.now c.args.claim.now.b.now c.args.both.now c.args.claim.now.stitches.now None c.requires.both unlisted in
    let apart = rw c.in_default-2.is at c.in_ok-first.ensures in
    let found = rw c.in-Some-3.is at c.in_ok-first-2.ensures in
    inr (
      listed,
      inr ((λ (p, q, h). apart p q h), ((c.in-Some-3.first, c.in-Some-3.second, found.are), (c.in-Some-3.first, c.in-Some-3.second, found, refl))),
    )

pub returns : goal.returns
returns c =
    let unlisted = rw c.in_default.is at c.in_ok-at.ensures in
    let listed = least-doubled c.args.claim.now.a.now c.args.claim.now.b.now c.args.both.now c.args.claim.now.stitches.now None c.requires.both unlisted in
    let apart_a = rw c.in_default-2.is at c.in_ok-first.ensures in
    let apart_b = rw c.in_default-3.is at c.in_ok-first-2.ensures in
    (listed, ((λ (p, q, h). apart_a p q h), (λ (p, q, h). apart_b p q h)))

pub returns-in_err-at : goal.returns-in_err-at
returns-in_err-at c = IfOk-from_err _ _ c.from_residual.ensures.0

pub returns-in_err-first : goal.returns-in_err-first
returns-in_err-first c = IfOk-from_err _ _ c.from_residual-in_err-first.ensures.0

pub returns-in_err-first-2 : goal.returns-in_err-first-2
returns-in_err-first-2 c = IfOk-from_err _ _ c.from_residual-in_err-first-2.ensures.0
