use Rattle.dpl_flatten.proofs.LinkLaws.{AreRows}
use Rattle.dpl_flatten.proofs.links.graph_of.Given as goal

abbrev pub invariant-loop-structure : goal.invariant-loop-structure
invariant-loop-structure l = AreRows l.lib l.structure l.graph.items
