use Rattle.dpl_shade.proofs.ShadingLaws.{AreUpTo}
use Rattle.dpl_shade.proofs.shades.portion_end.Given as goal

abbrev pub invariant-loop-k : goal.invariant-loop-k
invariant-loop-k l = AreUpTo l.found l.n l.k
