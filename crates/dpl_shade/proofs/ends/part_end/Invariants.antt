use Rattle.dpl_shade.proofs.EndLaws.{IsPartTo}
use Rattle.dpl_shade.proofs.ends.part_end.Given as goal

abbrev pub invariant-loop-k : goal.invariant-loop-k
invariant-loop-k l = IsPartTo l.items l.start l.k
