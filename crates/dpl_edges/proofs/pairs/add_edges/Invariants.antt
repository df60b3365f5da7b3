use Rattle.dpl_tile.specs.Adding.{Adds}
use Rattle.dpl_tile.proofs.Adding.{OfFirst}
use Rattle.dpl_tile.proofs.Loops.{Nth}
use Rattle.dpl_edges.specs.Found.{IsFoesEdge}
use Rattle.dpl_edges.proofs.pairs.add_edges.Given as goal

abbrev pub invariant-loop-pair : goal.invariant-loop-pair
invariant-loop-pair l = Adds (OfFirst (Nth (IsFoesEdge l.spacing l.owners l.items) l.pairs) l.pair-index) l.initial.found.items l.found.items
