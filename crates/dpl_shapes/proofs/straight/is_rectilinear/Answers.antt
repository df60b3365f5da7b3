use Rattle.std.proofs.Common.{◌<◌, length, arith}
use Rattle.dpl_shapes.proofs.Straightness.{not-rectilinear, rectilinear-by}
use Rattle.dpl_shapes.proofs.straight.is_rectilinear.Goals as goal

pub returns-then-not-is_straight : goal.returns-then-not-is_straight
returns-then-not-is_straight c = not-rectilinear c.args.points.now c.if-not-is_straight.ensures

pub returns : goal.returns
returns c =
    let some : 0 < length c.args.points.now = (let h = c.if-is_empty.ensures in grind arith) in
    rectilinear-by c.args.points.now c.is_level_or_upright.result _ _ some c.if-not-is_straight.ensures c.is_level_or_upright.ensures
