use Rattle.std.proofs.Common.{◌≡◌, ◌++◌, map, take}
use Rattle.dpl_sides.specs.Corners.{slab_of}
use Rattle.dpl_sides.proofs.corner.add_slabs.Given as goal

abbrev pub invariant-loop-r : goal.invariant-loop-r
invariant-loop-r l = l.slabs.items ≡ l.fn.slabs.items ++ map (slab_of l.number) (take l.r-index l.rects)
