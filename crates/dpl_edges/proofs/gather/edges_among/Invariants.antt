use Rattle.dpl_tile.specs.Adding.{Adds}
use Rattle.dpl_tile.proofs.Adding.{OfFirst}
use Rattle.dpl_tile.proofs.Loops.{Nth}
use Rattle.dpl_edges.proofs.Gathering.{IsMeetingEdge}
use Rattle.dpl_edges.proofs.gather.edges_among.Given as goal

abbrev pub invariant-loop-m : goal.invariant-loop-m
invariant-loop-m l = Adds (OfFirst (Nth (IsMeetingEdge l.plan l.cell) l.meetings) l.m-index) l.initial.found.items l.found.items
