use Rattle.dpl_spec_split.specs.Loops.{farthest, AreLoopsWithin}
use Rattle.dpl_test_cuts.proofs.sets.repeated.Given as goal

abbrev pub invariant-loop : goal.invariant-loop
invariant-loop l = AreLoopsWithin farthest l.all.items
