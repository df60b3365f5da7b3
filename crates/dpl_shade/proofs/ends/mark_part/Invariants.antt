use Rattle.dpl_shade.proofs.EndLaws.{ArePartMarked}
use Rattle.dpl_shade.proofs.ends.mark_part.Given as goal

abbrev pub invariant-loop-n : goal.invariant-loop-n
invariant-loop-n l = ArePartMarked l.items l.start l.n l.initial.ends l.ends
