use Rattle.std.proofs.Common.{◌≡◌, length, arith}
use Rattle.std.proofs.lemmas.Result.{IfOk-from_err}
use Rattle.dpl_feature.proofs.Whole.{components-dealt, parts-dealt}
use Rattle.dpl_wide.proofs.dealt.components.Goals as goal

pub of-requires : goal.of-requires
of-requires c =
    let e : c.loop-i.i ≡ length c.rects-rects.result.now = omega (arith, c.loop-i-test.false) in
    parts-dealt c.args.layer.now c.loop-i.numbers.items c.loop-i.parts.items c.rects-rects.ensures.canonical
    (rw c.rects-rects.ensures.value at (rw e at c.loop-i.invariant)) c.rects-rects.ensures.within

pub returns : goal.returns
returns c =
    let e : c.loop-i.i ≡ length c.rects-rects.result.now = omega (arith, c.loop-i-test.false) in
    rw c.of.ensures (components-dealt c.args.layer.now c.loop-i.numbers.items c.loop-i.parts.items c.rects-rects.ensures.canonical
    (rw c.rects-rects.ensures.value at (rw e at c.loop-i.invariant)))

pub returns-in_err-deal : goal.returns-in_err-deal
returns-in_err-deal c = IfOk-from_err _ _ c.from_residual.ensures.0
