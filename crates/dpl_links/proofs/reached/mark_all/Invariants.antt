use Rattle.std.proofs.Common.{take}
use Rattle.std.specs.List.{Contains}
use Rattle.dpl_links.specs.Marks.{Marks}
use Rattle.dpl_links.proofs.reached.mark_all.Given as goal

abbrev pub invariant-loop-vertex : goal.invariant-loop-vertex
invariant-loop-vertex l = Marks (Contains (take l.vertex-index l.vertices)) l.initial.marks.items l.marks.items l.initial.noted.items l.noted.items
