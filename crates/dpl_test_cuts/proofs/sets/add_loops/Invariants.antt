use Rattle.dpl_spec_split.specs.Loops.{farthest, AreLoopsWithin}
use Rattle.dpl_test_cuts.proofs.sets.add_loops.Given as goal

abbrev pub invariant-loop-i : goal.invariant-loop-i
invariant-loop-i l = AreLoopsWithin farthest l.all.items
