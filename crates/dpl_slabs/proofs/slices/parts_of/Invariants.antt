use Rattle.std.proofs.Common.{take}
use Rattle.dpl_slabs.specs.Slices.{ArePartsOf}
use Rattle.dpl_slabs.proofs.slices.parts_of.Given as goal

abbrev pub invariant-loop-r : goal.invariant-loop-r
invariant-loop-r l = ArePartsOf l.low l.high (take l.r-index l.rects) l.bars.items l.others.items
