use Rattle.dpl_gains.proofs.Holding.{AreHeldBelow}
use Rattle.dpl_gains.proofs.held.held_roots.Given as goal

abbrev pub invariant-loop-k : goal.invariant-loop-k
invariant-loop-k l = AreHeldBelow l.parts l.roots l.set l.k l.held.items
