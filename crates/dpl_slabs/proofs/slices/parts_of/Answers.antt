use Rattle.std.proofs.Common.{◌<◌, length, w32, arith}
use Rattle.std.proofs.lemmas.Int.{to_z-of_z}
use Rattle.std.proofs.lemmas.List.{get_or_default}
use Rattle.dpl_slabs.proofs.SliceLaws.{parts-none, parts-next, bars-row, cut-whole}
use Rattle.std.proofs.lemmas.Result.{IfOk-from_err}
use Rattle.dpl_slabs.proofs.slices.parts_of.Goals as goal

pub loop-r-init : goal.loop-r-init
loop-r-init c = rw (
  c.new-bars.ensures.items,
  c.new-others.ensures.items,
  to_z-of_z w32 c.args.low c.ranges.low,
  to_z-of_z w32 c.args.high c.ranges.high,
) (parts-none c.args.low c.args.high)

pub loop-r-preserved : goal.loop-r-preserved
loop-r-preserved c =
    let here : c.loop-r.r-index < length c.args.rects.now = omega arith in
    let before = rw (to_z-of_z w32 c.args.low c.ranges.low, to_z-of_z w32 c.args.high c.ranges.high) at c.loop-r.invariant in
    let adds = rw (to_z-of_z w32 c.args.low c.ranges.low, to_z-of_z w32 c.args.high c.ranges.high) at c.in_ok-add_part.ensures in
    rw (to_z-of_z w32 c.args.low c.ranges.low, to_z-of_z w32 c.args.high c.ranges.high)
    (parts-next c.args.low c.args.high c.args.rects.now _ _ _ _ c.loop-r.r-index _ here (get_or_default _ _ _ _ here) before adds)

pub row_of-requires : goal.row_of-requires
row_of-requires c = bars-row _ _ _ c.loop-r.invariant.full

pub returns : goal.returns
returns c =
    let parts = rw (to_z-of_z w32 c.args.low c.ranges.low, to_z-of_z w32 c.args.high c.ranges.high) at c.loop-r.invariant in
    cut-whole c.args.low c.args.high c.args.rects.now _ _ _ c.loop-r.r-index (omega arith) parts c.in_ok-row.ensures.slabs c.in_ok-row.ensures.spaced c.in_ok-row.ensures.level

pub returns-in_err-add_part : goal.returns-in_err-add_part
returns-in_err-add_part c = IfOk-from_err _ _ c.from_residual.ensures.0

pub returns-in_err-row : goal.returns-in_err-row
returns-in_err-row c = IfOk-from_err _ _ c.from_residual-in_err-row.ensures.0
