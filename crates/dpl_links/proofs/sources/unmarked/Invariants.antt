use Rattle.dpl_links.proofs.SourceLaws.{AreUnmarkedBelow}
use Rattle.dpl_links.proofs.sources.unmarked.Given as goal

abbrev pub invariant-loop-k : goal.invariant-loop-k
invariant-loop-k l = AreUnmarkedBelow l.marks l.k l.found.items
