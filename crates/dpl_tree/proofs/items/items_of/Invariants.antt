use Rattle.dpl_tree.proofs.ItemLaws.{OfParts}
use Rattle.dpl_tree.proofs.items.items_of.Given as goal

abbrev pub invariant-loop-k : goal.invariant-loop-k
invariant-loop-k l = OfParts l.parts l.k l.items
