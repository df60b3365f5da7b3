use Rattle.dpl_edges.proofs.Fixing.{AreFixedBelow}
use Rattle.dpl_edges.proofs.marks.add_fixed.Given as goal

abbrev pub invariant-loop-k : goal.invariant-loop-k
invariant-loop-k l = AreFixedBelow l.parts l.set l.anchor l.initial.edges.items l.k l.edges.items
