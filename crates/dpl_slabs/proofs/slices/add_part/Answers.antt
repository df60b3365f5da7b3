use Rattle.std.proofs.Common.{rules, arith, w32, FitsSigned}
use Rattle.std.proofs.lemmas.Int.{ints, to_z-of_z}
use Rattle.std.proofs.lemmas.Result.{on_ok_weaker, IfOk-from_err}
use Rattle.dpl_slabs.proofs.GapLaws.{le-false}
use Rattle.dpl_slabs.proofs.SliceLaws.{adds-empty_part, adds-bar, adds-other}
use Rattle.dpl_slabs.proofs.slices.add_part.Goals as goal

pub returns-then-part : goal.returns-then-part
returns-then-part c =
    let part = rw (to_z-of_z w32 c.args.low c.ranges.low, to_z-of_z w32 c.args.high c.ranges.high) at c.part_of-part.ensures in
    adds-empty_part c.args.low c.args.high c.args.r.now c.part_of-part.result _ _ part (λ solid. (let wide = solid.wide in
    let tall = solid.tall in grind (arith, ints, wide, tall)))

pub returns-then-part-high : goal.returns-then-part-high
returns-then-part-high c =
    let part = rw (to_z-of_z w32 c.args.low c.ranges.low, to_z-of_z w32 c.args.high c.ranges.high) at c.part_of-part.ensures in
    let x0 : FitsSigned w32 c.part_of-part.result.x0 = search rules in
    let x1 : FitsSigned w32 c.part_of-part.result.x1 = search rules in
    let y0 : FitsSigned w32 c.part_of-part.result.y0 = search rules in
    let y1 : FitsSigned w32 c.part_of-part.result.y1 = search rules in
    let wide = le-false _ _ (rw (to_z-of_z w32 _ x1, to_z-of_z w32 _ x0) at c.if-part.false) in
    let tall = le-false _ _ (rw (to_z-of_z w32 _ y1, to_z-of_z w32 _ y0) at c.if-part-2.false) in
    on_ok_weaker c.push_bar.result
    (adds-bar c.args.low c.args.high c.args.r.now c.part_of-part.result _ _ _ part c.requires
    (record { solid = record { wide = wide; tall = tall }; first = grind (arith, ints); end = grind (arith, ints) }))
    c.push_bar.ensures

pub returns : goal.returns
returns c =
    let part = rw (to_z-of_z w32 c.args.low c.ranges.low, to_z-of_z w32 c.args.high c.ranges.high) at c.part_of-part.ensures in
    let x0 : FitsSigned w32 c.part_of-part.result.x0 = search rules in
    let x1 : FitsSigned w32 c.part_of-part.result.x1 = search rules in
    let y0 : FitsSigned w32 c.part_of-part.result.y0 = search rules in
    let y1 : FitsSigned w32 c.part_of-part.result.y1 = search rules in
    let wide = le-false _ _ (rw (to_z-of_z w32 _ x1, to_z-of_z w32 _ x0) at c.if-part.false) in
    let tall = le-false _ _ (rw (to_z-of_z w32 _ y1, to_z-of_z w32 _ y0) at c.if-part-2.false) in
    rw c.in_ok-push.ensures.items
    (adds-other c.args.low c.args.high c.args.r.now c.part_of-part.result _ _ part c.requires (record { wide = wide; tall = tall }))

pub returns-in_err-push : goal.returns-in_err-push
returns-in_err-push c = IfOk-from_err _ _ c.from_residual.ensures.0
