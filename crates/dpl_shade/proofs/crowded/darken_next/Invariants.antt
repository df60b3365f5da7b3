use Rattle.dpl_shade.proofs.CrowdLaws.{IsKept}
use Rattle.dpl_shade.proofs.crowded.darken_next.Given as goal

abbrev pub invariant-loop-m : goal.invariant-loop-m
invariant-loop-m l = IsKept l.items l.initial.shades l.shades
