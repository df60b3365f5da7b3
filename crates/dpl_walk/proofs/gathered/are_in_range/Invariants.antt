use Rattle.std.proofs.Common.{take}
use Rattle.dpl_spec_split.specs.Loops.{ArePointsWithin, farthest}
use Rattle.dpl_walk.proofs.gathered.are_in_range.Given as goal

abbrev pub invariant-loop-point : goal.invariant-loop-point
invariant-loop-point l = ArePointsWithin farthest (take l.point-index l.points)
