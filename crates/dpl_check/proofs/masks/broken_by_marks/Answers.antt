use Rattle.std.proofs.Common.{refl, inl, inr, Some, None}
use Rattle.std.proofs.lemmas.Result.{IfOk-from_err}
use Rattle.dpl_check.proofs.Stitches.{first-bad-stitch}
use Rattle.dpl_check.proofs.masks.broken_by_marks.Goals as goal

pub returns-in-Some : goal.returns-in-Some
returns-in-Some c = λ marks are.
    let found = rw c.in-Some.is at (c.in_ok-at.ensures marks are) in
    inl ((c.in-Some.at, found.inside), (c.in-Some.at, found, refl))

pub returns-in-Some-2 : goal.returns-in-Some-2
returns-in-Some-2 c = λ marks are.
    let placed = rw c.in_default.is at (c.in_ok-at.ensures marks are) in
    let first = rw c.in-Some-2.is at c.in_ok-index.ensures in
    let found = first-bad-stitch c.args.claim.now.overlap c.args.claim.now.a.now c.args.claim.now.b.now c.args.both.now c.args.claim.now.pieces.now
    c.requires.both c.args.claim.now.stitches.now (Some c.in-Some-2.index) first in
    inr (placed, ((c.in-Some-2.index, found.inside, found.is), (c.in-Some-2.index, found, refl)))

pub returns : goal.returns
returns c = λ marks are.
    let placed = rw c.in_default.is at (c.in_ok-at.ensures marks are) in
    let right = rw c.in_default-2.is at c.in_ok-index.ensures in
    let stitches = first-bad-stitch c.args.claim.now.overlap c.args.claim.now.a.now c.args.claim.now.b.now c.args.both.now c.args.claim.now.pieces.now
    c.requires.both c.args.claim.now.stitches.now None right in
    (placed, stitches)

pub returns-in_err-at : goal.returns-in_err-at
returns-in_err-at c = λ marks are. IfOk-from_err _ _ c.from_residual.ensures.0

pub returns-in_err-index : goal.returns-in_err-index
returns-in_err-index c = λ marks are. IfOk-from_err _ _ c.from_residual-in_err-index.ensures.0
