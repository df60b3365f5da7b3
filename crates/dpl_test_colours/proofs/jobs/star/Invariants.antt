use Rattle.dpl_stars.specs.Sums.{AreEdgePairs}
use Rattle.dpl_test_colours.proofs.jobs.star.Given as goal

abbrev pub invariant-loop-k : goal.invariant-loop-k
invariant-loop-k l = AreEdgePairs l.edges.items
