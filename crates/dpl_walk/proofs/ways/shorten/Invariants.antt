use Rattle.dpl_walk.proofs.ShortLaws.{AreShortBelow}
use Rattle.dpl_walk.proofs.ways.shorten.Given as goal

abbrev pub invariant-loop-structure : goal.invariant-loop-structure
invariant-loop-structure l = AreShortBelow l.ways l.structure l.initial.cells.items l.cells.items
