use Rattle.dpl_session.proofs.Naming.{AreNamedTo}
use Rattle.dpl_session.proofs.window.names_of.Given as goal

abbrev pub invariant-loop-r : goal.invariant-loop-r
invariant-loop-r l = AreNamedTo l.index.parts l.slabs l.names.items l.r-index
