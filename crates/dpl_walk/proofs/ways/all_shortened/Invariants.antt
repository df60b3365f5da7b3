use Rattle.std.proofs.Common.{take}
use Rattle.dpl_walk.specs.Ways.{AreShort}
use Rattle.dpl_walk.proofs.ways.all_shortened.Given as goal

abbrev pub invariant-loop-array : goal.invariant-loop-array
invariant-loop-array l = AreShort l.ways (take l.array-index l.copies) l.found.items
