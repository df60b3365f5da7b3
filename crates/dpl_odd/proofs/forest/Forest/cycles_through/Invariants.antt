use Rattle.std.proofs.Common.{ℕ, List}
use Rattle.dpl_odd.specs.Tables.{AreClosed}
use Rattle.dpl_odd.proofs.forest.Forest.cycles_through.Given as goal

abbrev pub invariant-loop-edge : goal.invariant-loop-edge
invariant-loop-edge l = (roots : List ℕ) × AreClosed l.self.levels.levels.items l.self.parents.items l.edges l.edge-index roots l.cycles.items
