use Rattle.dpl_stars.specs.Arcs.{AreChains}
use Rattle.dpl_stars.proofs.chains.chains_of.Given as goal

abbrev pub invariant-loop-k : goal.invariant-loop-k
invariant-loop-k l = AreChains l.edges l.n l.k l.last.items l.before.items
