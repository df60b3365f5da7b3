use Rattle.std.proofs.Common.{◌<◌, length, get_or, arith}
use Rattle.std.proofs.lemmas.List.{get_or_default}
use Rattle.std.proofs.lemmas.List.Elements.{Contains-get_or}
use Rattle.dpl_slabs.proofs.Firsts.{zero}
use Rattle.dpl_slabs.proofs.GapLaws.{left-whole, left-next, left-all}
use Rattle.std.proofs.lemmas.Result.{IfOk-from_err}
use Rattle.dpl_slabs.proofs.gaps.bars_without.Goals as goal

pub returns-then-is_empty-clause-slabs : goal.returns-then-is_empty-clause-slabs
returns-then-is_empty-clause-slabs c = left-whole c.args.bars.items c.args.gaps.now c.requires.bars (let h = c.is_empty.ensures in grind arith)

pub add_bar_without-requires-clause-level : goal.add_bar_without-requires-clause-level
add_bar_without-requires-clause-level c =
    let here : c.loop-bar.bar-index < length c.args.bars.items = rw c.deref-bar-items.ensures.value at c.loop-bar-test.true in
    rw c.deref-bar-items.ensures.value (λ gap. c.requires.level (get_or c.args.bars.items c.loop-bar.bar-index zero) gap
    (Contains-get_or c.args.bars.items c.loop-bar.bar-index zero here))

pub add_bar_without-requires-clause-before : goal.add_bar_without-requires-clause-before
add_bar_without-requires-clause-before c =
    let here : c.loop-bar.bar-index < length c.args.bars.items = rw c.deref-bar-items.ensures.value at c.loop-bar-test.true in
    rw c.deref-bar-items.ensures.value (c.loop-bar.invariant.before c.loop-bar.bar-index zero (omega arith) here)

pub loop-bar-preserved : goal.loop-bar-preserved
loop-bar-preserved c =
    let bars = c.args.bars.items in
    let here : c.loop-bar.bar-index < length bars = rw c.deref-bar-items.ensures.value at c.loop-bar-test.true in
    let adds = rw c.deref-bar-items.ensures.value at c.in_ok-from.ensures in
    left-next bars c.args.gaps.now _ _ c.loop-bar.bar-index _ _ (get_or bars c.loop-bar.bar-index zero) c.requires.bars here
    (get_or_default bars c.loop-bar.bar-index zero _ here) c.loop-bar.invariant adds

pub returns-clause-slabs : goal.returns-clause-slabs
returns-clause-slabs c = left-all c.args.bars.items c.args.gaps.now _ c.loop-bar.bar-index _
    (let h = rw c.deref-bar-items.ensures.value at c.loop-bar-test.false in omega (arith, h)) c.loop-bar.invariant

pub returns-in_err-left-clause-slabs : goal.returns-in_err-left-clause-slabs
returns-in_err-left-clause-slabs c = IfOk-from_err _ _ c.from_residual.ensures.0

pub returns-in_err-left-clause-apart : goal.returns-in_err-left-clause-apart
returns-in_err-left-clause-apart c = IfOk-from_err _ _ c.from_residual.ensures.0

pub returns-in_err-from-clause-slabs : goal.returns-in_err-from-clause-slabs
returns-in_err-from-clause-slabs c = IfOk-from_err _ _ c.from_residual-in_err-from.ensures.0

pub returns-in_err-from-clause-apart : goal.returns-in_err-from-clause-apart
returns-in_err-from-clause-apart c = IfOk-from_err _ _ c.from_residual-in_err-from.ensures.0

pub add_bar_without-requires-clause-gaps : goal.add_bar_without-requires-clause-gaps
add_bar_without-requires-clause-gaps c = c.requires.gaps
