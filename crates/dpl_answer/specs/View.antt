-- What is made of a layer, in the words of the definitions.
use Rattle.std.specs.Prelude.{◌≡◌, ℕ, List, length, Option}
use Rattle.dpl_spec_split.specs.declared.Spacing.{Spacing}
use Rattle.dpl_spec_split.specs.declared.Rect.{Rect}
use Rattle.dpl_spec_split.specs.Marks.{Marks, graph, vertex}
use Rattle.dpl_spec_split.specs.Graphs.{AreEdges, graph_of}
use Rattle.dpl_spec_split.specs.Summary.{HasOddCycle}
use Rattle.dpl_stars.specs.Levels.{AreEdgesBelow}
use Rattle.dpl_stars.specs.Sums.{Sums}
use Rattle.dpl_stars.specs.declared.list.Star.{Star}
use Rattle.dpl_stars.specs.declared.joined.Joined.TheVariants.{Stars}
use Rattle.dpl_orient.specs.Oriented.{IsEvenBelow}
use Rattle.dpl_answer.specs.Conflicts.{SumsGraph}
use Rattle.dpl_answer.specs.Flat.{Flat, Clashes, Paints, Painted as PaintedAs, Clash as ClashAs}
use Rattle.dpl_answer.specs.declared.conflicts.Conflicts.{Conflicts}
use Rattle.dpl_answer.specs.declared.conflicts.Conflicts.TheVariants.{Even, Odd}
use Rattle.dpl_answer.specs.declared.decomposed.Painted.{Painted}
use Rattle.dpl_answer.specs.declared.decomposed.Clash.{Clash}
use Rattle.dpl_answer.specs.declared.decomposed.Decomposed.{Decomposed}
use Rattle.dpl_answer.specs.declared.decomposed.Decomposed.TheVariants.{Masks, Cycle}

abbrev pub painted_view : Painted → PaintedAs
painted_view p = record { a = p.a; b = p.b; head = p.head; pieces = p.pieces; stitches = p.stitches; gains = p.gains }

abbrev pub clash_view : Clash → ClashAs
clash_view x = record { head = x.head; cycle = x.cycle; near = x.near }

abbrev pub flat_view : Decomposed → Flat
flat_view (Masks p) = Paints (painted_view p)
flat_view (Cycle x) = Clashes (clash_view x)

-- the summary of the graph of pieces with these owners, with anchors where marks are asked for, if that has no odd cycle, or all its edges, if it has one
abbrev pub AreConflictsOf : Option Marks → Spacing → List (List Rect) → List ℕ → Conflicts → Type 0
AreConflictsOf marks spacing parts owners (Even joined) = SumsGraph (graph marks spacing parts owners) joined × IsEvenBelow (vertex marks (length parts)) joined
AreConflictsOf marks spacing parts owners (Odd edges) =
    AreEdges (graph marks spacing parts owners) edges.items × AreEdgesBelow (vertex marks (length parts)) edges.items × HasOddCycle (graph_of edges.items)

-- the summary of these edges, if they have no odd cycle, or all of them, if they have one
abbrev pub AreAmong : List (ℕ × ℕ) → Conflicts → Type 0
AreAmong edges (Even joined) = Sums edges joined × (rows : List Star) × (joined ≡ Stars rows)
AreAmong edges (Odd all) = (all.items ≡ edges) × HasOddCycle (graph_of edges)
