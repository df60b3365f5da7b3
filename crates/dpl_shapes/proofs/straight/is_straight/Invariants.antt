use Rattle.dpl_shapes.specs.Straight.{IsStraightBelow}
use Rattle.dpl_shapes.proofs.straight.is_straight.Given as goal

abbrev pub invariant-loop-i : goal.invariant-loop-i
invariant-loop-i l = IsStraightBelow l.points l.i
