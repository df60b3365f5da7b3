-- Edges of anchors, and the graph that they make with the edges of pieces.
use Rattle.std.specs.Prelude.{◌≡◌, ◌↔◌, ℕ, ◌+◌, ◌<◌, List, ◌++◌, length, map}
use Rattle.std.specs.List.{Contains}
use Rattle.dpl_spec_split.specs.declared.Spacing.{Spacing}
use Rattle.dpl_spec_split.specs.declared.Rect.{Rect}
use Rattle.dpl_spec_split.specs.Squares.{Covers}
use Rattle.dpl_spec_split.specs.Zones.{part_at}
use Rattle.dpl_spec_split.specs.Pieces.{Conflict}
use Rattle.dpl_spec_split.specs.Graphs.{AreEdges, Precedes, graph_of}
use Rattle.dpl_spec_split.specs.Marks.{Marks, HasSome, MarkEdge, Anchored}

abbrev pub marks_of : List Rect → List Rect → Marks
marks_of a b = record { a = a; b = b }

-- the edge of the anchor and a piece with a square of the set
abbrev pub IsAnchorEdge : List (List Rect) → List Rect → ℕ → ℕ × ℕ → Type 0
IsAnchorEdge parts set anchor e = (k : ℕ) × (k < length parts) × HasSome (part_at parts k) (Covers set) × (e.0 ≡ anchor) × (e.1 ≡ k + 2)

-- the edges precede those of the anchor and pieces
abbrev pub IsAhead : ℕ → List (ℕ × ℕ) → Type 0
IsAhead anchor edges = (e : ℕ × ℕ) (k : ℕ) → Contains edges e → Precedes e (anchor, k + 2)

-- the edges of pieces, by vertices, and those of marks make the graph with anchors
abbrev pub MarksMakeTheGraph : Type 0
MarksMakeTheGraph = (spacing : Spacing) (m : Marks) (pieces : List (List Rect)) (owners : List ℕ) (conflicts marked : List (ℕ × ℕ))
    → AreEdges (Conflict spacing pieces owners) conflicts → AreEdges (MarkEdge m pieces) marked
    → (u v : ℕ) → graph_of (map (λ e. (e.0 + 2, e.1 + 2)) conflicts ++ marked) u v ↔ Anchored spacing m pieces owners u v
