use Rattle.dpl_view.specs.Ranks.{AreRanks}
use Rattle.dpl_view.proofs.layers.ranks_of.Given as goal

abbrev pub invariant-loop-structure : goal.invariant-loop-structure
invariant-loop-structure l = AreRanks l.lib l.structure l.ranks.items
