use Rattle.dpl_tile.specs.Adding.{Adds}
use Rattle.dpl_tile.proofs.Adding.{OfFirst}
use Rattle.dpl_tile.proofs.Loops.{Nth}
use Rattle.dpl_session.proofs.Conflicting.{IsEdgeNamed}
use Rattle.dpl_session.proofs.edges.add_named.Given as goal

abbrev pub invariant-loop-i : goal.invariant-loop-i
invariant-loop-i l = Adds (OfFirst (Nth (IsEdgeNamed l.names) l.edges) l.i-index) l.initial.all.items l.all.items
