use Rattle.std.proofs.Common.{w32}
use Rattle.std.proofs.lemmas.Int.{to_z-of_z}
use Rattle.std.proofs.lemmas.Result.{IfOk-weaker, IfOk-from_err}
use Rattle.dpl_slabs.specs.Slices.{InRows, Without}
use Rattle.dpl_slabs.proofs.SliceLaws.{cut-spaced, cut-level, near-within, pieces-permuted, rest-within, slice-pieces}
use Rattle.dpl_slabs.proofs.slices.pieces_of_slice.Goals as goal

pub bars_without-requires-clause-bars : goal.bars_without-requires-clause-bars
bars_without-requires-clause-bars c = cut-spaced _ _ c.args.rects.now _ _ c.in_ok-bars.ensures

pub bars_without-requires-clause-gaps : goal.bars_without-requires-clause-gaps
bars_without-requires-clause-gaps c = rw c.deref.ensures.value (cut-spaced _ _ c.args.holes.now _ _ c.in_ok-gaps.ensures)

pub bars_without-requires-clause-level : goal.bars_without-requires-clause-level
bars_without-requires-clause-level c = rw c.deref.ensures.value (cut-level _ _ c.args.rects.now c.args.holes.now _ _ _ _ c.in_ok-bars.ensures c.in_ok-gaps.ensures)

pub combine_lists_without-requires-clause-rects : goal.combine_lists_without-requires-clause-rects
combine_lists_without-requires-clause-rects c =
    let left = rw c.deref.ensures.value at c.in_ok-bars-2.ensures.slabs in
    let touching = rw (c.deref-2.ensures.value, c.deref-3.ensures.value) at c.in_ok-add_touching.ensures in
    let alone = rw c.deref-4.ensures.value at c.in_ok-alone.ensures in
    rest-within _ _ c.args.rects.now c.args.holes.now _ _ _ _ _ _ _ _ c.in_ok-bars.ensures c.in_ok-gaps.ensures left touching alone

pub combine_lists_without-requires-clause-holes : goal.combine_lists_without-requires-clause-holes
combine_lists_without-requires-clause-holes c =
    let touching = rw (c.deref-2.ensures.value, c.deref-3.ensures.value) at c.in_ok-add_touching.ensures in
    near-within c.in_ok-bars.parts.items c.in_ok-gaps.holes.items _ c.in_ok-gaps.gaps.items touching c.in_ok-gaps.ensures.within c.in_ok-gaps.ensures.bars_within

pub returns : goal.returns
returns c =
    let rects = rw (to_z-of_z w32 c.args.low c.ranges.low, to_z-of_z w32 c.args.high c.ranges.high) at c.in_ok-bars.ensures in
    let holes = rw (to_z-of_z w32 c.args.low c.ranges.low, to_z-of_z w32 c.args.high c.ranges.high) at c.in_ok-gaps.ensures in
    let left = rw c.deref.ensures.value at c.in_ok-bars-2.ensures.slabs in
    let touching = rw (c.deref-2.ensures.value, c.deref-3.ensures.value) at c.in_ok-add_touching.ensures in
    let alone = rw c.deref-4.ensures.value at c.in_ok-alone.ensures in
    IfOk-weaker c.put_together.result _ _
    (λ v same. pieces-permuted (InRows c.args.low c.args.high (Without c.args.rects.now c.args.holes.now)) _ v.items same
    (slice-pieces c.args.low c.args.high c.args.rects.now c.args.holes.now _ _ _ _ _ _ _ _ rects holes left touching alone _ c.in_ok-slabs.ensures))
    c.put_together.ensures

pub returns-in_err-add_touching : goal.returns-in_err-add_touching
returns-in_err-add_touching c = IfOk-from_err _ _ c.from_residual-in_err-add_touching.ensures.0

pub returns-in_err-alone : goal.returns-in_err-alone
returns-in_err-alone c = IfOk-from_err _ _ c.from_residual-in_err-alone.ensures.0

pub returns-in_err-slabs : goal.returns-in_err-slabs
returns-in_err-slabs c = IfOk-from_err _ _ c.from_residual-in_err-slabs.ensures.0

pub returns-in_err-bars : goal.returns-in_err-bars
returns-in_err-bars c = IfOk-from_err _ _ c.from_residual.ensures.0

pub returns-in_err-bars-2 : goal.returns-in_err-bars-2
returns-in_err-bars-2 c = IfOk-from_err _ _ c.from_residual-in_err-bars-2.ensures.0

pub returns-in_err-gaps : goal.returns-in_err-gaps
returns-in_err-gaps c = IfOk-from_err _ _ c.from_residual-in_err-gaps.ensures.0
