use Rattle.std.specs.Prelude.{ℕ, List}
use Rattle.dpl_stars.specs.Sums.{AreEdgePairs, Sums}
use Rattle.dpl_wide.specs.Touching.{AreParents, AreTouchEdges}
use Rattle.dpl_wide.proofs.features.parents_of.Given as goal

abbrev pub invariant-loop-k : goal.invariant-loop-k
invariant-loop-k l = (edges : List (ℕ × ℕ)) → AreEdgePairs edges → AreTouchEdges l.layer edges → Sums edges l.joined → AreParents edges l.k l.parents.items
