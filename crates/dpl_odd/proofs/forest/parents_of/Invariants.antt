use Rattle.dpl_odd.specs.Paths.{AreLowest}
use Rattle.dpl_odd.proofs.ParentLaws.{first_edges}
use Rattle.dpl_odd.proofs.forest.parents_of.Given as goal

abbrev pub invariant-loop-u : goal.invariant-loop-u
invariant-loop-u l = AreLowest (first_edges l.edges l.u-index) l.n l.levels l.parents.items
