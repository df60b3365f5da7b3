use Rattle.std.proofs.Common.{length}
use Rattle.dpl_order.specs.Orders.{CornersRise}
use Rattle.dpl_slabs.proofs.blocks.has_tall_strip.Given as goal

abbrev pub invariant-loop-rest : goal.invariant-loop-rest
invariant-loop-rest l = CornersRise l.rest

abbrev pub decreases-loop-rest : goal.decreases-loop-rest
decreases-loop-rest l = length l.rest
