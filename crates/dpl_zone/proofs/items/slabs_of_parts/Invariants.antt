use Rattle.dpl_zone.proofs.OwnedLaws.{AreSetsTo}
use Rattle.dpl_zone.proofs.items.slabs_of_parts.Given as goal

abbrev pub invariant-loop-k : goal.invariant-loop-k
invariant-loop-k l = AreSetsTo l.parts l.k l.items.items
