use Rattle.dpl_sides.specs.Corners.{AreSlabsWithin}
use Rattle.dpl_sides.specs.Pieces.{parts_in}
use Rattle.dpl_sides.proofs.corner.list_slabs.Given as goal

abbrev pub invariant-loop-k : goal.invariant-loop-k
invariant-loop-k l = AreSlabsWithin (parts_in l.pieces) l.from l.k l.slabs.items
