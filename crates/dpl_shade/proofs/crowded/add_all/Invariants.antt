use Rattle.dpl_shade.proofs.CrowdLaws.{HandlesTo}
use Rattle.dpl_shade.proofs.crowded.add_all.Given as goal

abbrev pub invariant-loop-m : goal.invariant-loop-m
invariant-loop-m l = HandlesTo l.items l.fn.n l.m l.initial.shades l.shades
