use Rattle.dpl_shade.proofs.CrowdLaws.{HandlesUpTo}
use Rattle.dpl_shade.proofs.crowded.add_alive.Given as goal

abbrev pub invariant-loop-n : goal.invariant-loop-n
invariant-loop-n l = HandlesUpTo l.items l.n l.initial.shades l.shades
