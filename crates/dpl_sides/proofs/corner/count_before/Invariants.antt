use Rattle.std.proofs.Common.{◌-◌}
use Rattle.dpl_sides.specs.Corners.{IsBracket}
use Rattle.dpl_sides.proofs.corner.count_before.Given as goal

abbrev pub invariant-loop-low : goal.invariant-loop-low
invariant-loop-low l = IsBracket l.corners l.x l.y l.low l.high

abbrev pub decreases-loop-low : goal.decreases-loop-low
decreases-loop-low l = l.high - l.low
