use Rattle.dpl_edges.proofs.Fixing.{NoneYet}
use Rattle.dpl_gains.proofs.held.has_some.Given as goal

abbrev pub invariant-loop-r : goal.invariant-loop-r
invariant-loop-r l = NoneYet l.r-items l.set l.r-index
