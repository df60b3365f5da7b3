use Rattle.dpl_spec_split.specs.Loops.{farthest, ArePointsWithin}
use Rattle.dpl_test_cuts.proofs.sets.loop_of.Given as goal

abbrev pub invariant-loop-corner : goal.invariant-loop-corner
invariant-loop-corner l = ArePointsWithin farthest l.points.items
