use Rattle.std.proofs.lemmas.List.Elements.{All-push}
use Rattle.dpl_spec_split.specs.Loops.{farthest, ArePointsWithin}
use Rattle.dpl_test_cuts.proofs.sets.add_loops.Goals as goal

pub loop-i-preserved : goal.loop-i-preserved
loop-i-preserved c = rw c.in_ok-push.ensures.items (All-push (ArePointsWithin farthest) c.loop-i.all.items c.in_ok-loop_of.field-0 c.loop-i.invariant c.in_ok-loop_of.ensures)
