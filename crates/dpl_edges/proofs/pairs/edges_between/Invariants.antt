use Rattle.dpl_tile.specs.Adding.{Adds}
use Rattle.dpl_tile.proofs.Adding.{OfFirst}
use Rattle.dpl_tile.proofs.Loops.{Nth}
use Rattle.dpl_edges.specs.Found.{IsBetween}
use Rattle.dpl_edges.proofs.pairs.edges_between.Given as goal

abbrev pub invariant-loop-edge : goal.invariant-loop-edge
invariant-loop-edge l = Adds (OfFirst (Nth (IsBetween l.low l.high) l.found) l.edge-index) l.initial.edges.items l.edges.items
