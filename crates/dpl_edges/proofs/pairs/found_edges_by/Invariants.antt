use Rattle.std.proofs.Common.{length}
use Rattle.dpl_tile.proofs.Taking.{AreTaken}
use Rattle.dpl_edges.specs.Found.{IsDealtEdge}
use Rattle.dpl_edges.proofs.pairs.found_edges_by.Given as goal

abbrev pub invariant-loop-list : goal.invariant-loop-list
invariant-loop-list g l = AreTaken (IsDealtEdge l.fn.spacing l.owners l.join l.count) l.count l.lists.items l.found.items

abbrev pub decreases-loop-list : goal.decreases-loop-list
decreases-loop-list g l = length l.lists.items
