use Rattle.std.proofs.Common.{take}
use Rattle.dpl_flatten.specs.Loops.{AreAdded}
use Rattle.dpl_flatten.proofs.loops.loops_of.Given as goal

abbrev pub invariant-loop-rect : goal.invariant-loop-rect
invariant-loop-rect l = AreAdded (take l.rect-index l.fn.shapes.rects.items) l.fn.shapes.loops.items l.loops.items
