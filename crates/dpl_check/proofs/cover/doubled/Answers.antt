use Rattle.std.proofs.Common.{◌≡◌, length, arith}
use Rattle.std.proofs.lemmas.Result.{IfOk-from_err}
use Rattle.dpl_check.specs.Findings.{is_unlisted}
use Rattle.dpl_check.proofs.Sets.{least-of, unlisted-are, unlisted-none, stitches-within}
use Rattle.dpl_check.proofs.cover.doubled.Goals as goal

pub returns-then-is_empty : goal.returns-then-is_empty
returns-then-is_empty c =
    let empty : length c.rects.result.now ≡ 0 = (let h = c.if-is_empty.ensures in grind arith) in
    unlisted-none c.args.both.now c.args.stitches.now (rw c.rects.ensures.value at empty)

pub of_rects_without-requires-clause-holes : goal.of_rects_without-requires-clause-holes
of_rects_without-requires-clause-holes c = rw (c.deref.ensures.value, c.in_ok-listed.ensures) (stitches-within c.args.stitches.now c.requires)

pub returns : goal.returns
returns c =
    let left = rw (c.rects-2.ensures.value, c.deref.ensures.value, c.in_ok-listed.ensures) at c.in_ok-left.ensures in
    least-of (is_unlisted c.args.both.now c.args.stitches.now) c.in_ok-left.left c.least.result
    (unlisted-are c.args.both.now c.in_ok-left.left c.args.stitches.now left)
    c.least.ensures.none c.least.ensures.some

pub returns-in_err-listed : goal.returns-in_err-listed
returns-in_err-listed c = IfOk-from_err _ _ c.from_residual.ensures.0

pub returns-in_err-left : goal.returns-in_err-left
returns-in_err-left c = IfOk-from_err _ _ c.from_residual-in_err-left.ensures.0
