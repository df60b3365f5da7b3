use Rattle.std.proofs.Common.{List, length}
use Rattle.dpl_spec_split.specs.declared.Pt.{Pt}
use Rattle.dpl_walk.specs.Kept.{AreKept}
use Rattle.dpl_walk.specs.Walk.{AreSteep, IsWalking, walk_left}
use Rattle.dpl_walk.proofs.walk.walk_from.Given as goal

abbrev pub invariant-loop-frame : goal.invariant-loop-frame
invariant-loop-frame l =
    (d : AreSteep l.cells) × (all : List (List Pt)) × IsWalking l.cells l.top (length l.cells) d.level all l.gathered.far l.stack.items × AreKept all l.gathered

abbrev pub decreases-loop-frame : goal.decreases-loop-frame
decreases-loop-frame l = walk_left l.cells (length l.cells) l.stack.items
