use Rattle.std.proofs.Common.{map, take}
use Rattle.dpl_sides.specs.Corners.{slab_corner}
use Rattle.dpl_sides.specs.Noted.{AreNoted}
use Rattle.dpl_sides.proofs.noted.note_all.Given as goal

abbrev pub invariant-loop-slab : goal.invariant-loop-slab
invariant-loop-slab l = AreNoted (take l.slab-index (map (slab_corner l.kind) l.slabs)) l.corners l.initial.noted l.noted
