use Rattle.dpl_shade.proofs.CrowdLaws.{IsKept}
use Rattle.dpl_shade.proofs.crowded.darken_all.Given as goal

abbrev pub invariant-loop-n : goal.invariant-loop-n
invariant-loop-n l = IsKept l.items l.initial.shades l.shades
