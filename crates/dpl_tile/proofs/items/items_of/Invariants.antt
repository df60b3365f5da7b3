use Rattle.dpl_tile.specs.Adding.{Adds}
use Rattle.dpl_tile.proofs.Adding.{OfFirst}
use Rattle.dpl_tile.proofs.ItemLaws.{OfPart}
use Rattle.dpl_tile.proofs.items.items_of.Given as goal

abbrev pub invariant-loop-k : goal.invariant-loop-k
invariant-loop-k l = Adds (OfFirst (OfPart l.parts) l.k) l.initial.items.items l.items.items
