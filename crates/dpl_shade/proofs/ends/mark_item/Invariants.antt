use Rattle.dpl_shade.proofs.EndLaws.{IsMarkedTo}
use Rattle.dpl_shade.proofs.ends.mark_item.Given as goal

abbrev pub invariant-loop-k : goal.invariant-loop-k
invariant-loop-k l = IsMarkedTo l.items l.n l.k l.initial.ends l.ends
