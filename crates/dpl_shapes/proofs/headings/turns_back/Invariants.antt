use Rattle.dpl_shapes.specs.Straight.{GoesOnBelow}
use Rattle.dpl_shapes.proofs.headings.turns_back.Given as goal

abbrev pub invariant-loop-i : goal.invariant-loop-i
invariant-loop-i l = GoesOnBelow l.points l.i
