use Rattle.std.proofs.Common.{take}
use Rattle.dpl_links.specs.Parts.{AreClosed}
use Rattle.dpl_links.proofs.levels.close_all.Given as goal

abbrev pub invariant-loop-vertex : goal.invariant-loop-vertex
invariant-loop-vertex l = AreClosed (take l.vertex-index l.vertices) l.level l.initial.closed.items l.closed.items l.initial.levels.items l.levels.items
