-- An answer with marks: the edges that they make, and how a cycle of the graph with anchors is told.
use Rattle.std.specs.Prelude.{◌≡◌, ℕ, zero, suc, ◌+◌, ◌%◌, ◌<◌, Bool, false, true, List, ◌++◌, length, map, drop, slice_index, slice_index_or, Option, Some, None, option_map}
use Rattle.dpl_spec_split.specs.declared.Spacing.{Spacing}
use Rattle.dpl_spec_split.specs.declared.Pt.{Pt}
use Rattle.dpl_spec_split.specs.declared.Rect.{Rect}
use Rattle.dpl_spec_split.specs.Squares.{AreNear, Covers, IsLeast}
use Rattle.dpl_spec_split.specs.Zones.{part_at}
use Rattle.dpl_spec_split.specs.Graphs.{AreEdges}
use Rattle.dpl_spec_split.specs.Marks.{HasSome, MarkEdge, Marks, letters_by, sides_by, vertex}
use Rattle.dpl_stars.specs.declared.joined.Joined.{Joined}
use Rattle.dpl_spec_fewer.specs.Masks.{fixed_by}
use Rattle.dpl_orient.specs.Fewer.{ColoursBy}
use Rattle.dpl_nearest.specs.Nearest.{IsNearestPair}
use Rattle.dpl_cert.specs.declared.cert.PlaceLine.{PlaceLine}
use Rattle.dpl_cert.specs.declared.cert.PlaceLine.TheVariants.{Anchor as AnchorLine}
use Rattle.dpl_cert.specs.declared.cert.NearLine.{NearLine}
use Rattle.dpl_cert.specs.declared.cert.NearLine.TheVariants.{Pair, Mark, Anchors}
use Rattle.dpl_law_verdict.specs.Own.{ShowsPair, place_line}
use Rattle.dpl_answer.specs.declared.marks.MarkSets.{MarkSets}
use Rattle.dpl_answer.specs.declared.vertices.Vertex.{Vertex}
use Rattle.dpl_answer.specs.declared.vertices.Vertex.TheVariants.{Anchor, Piece}

-- ---- marks and their edges

abbrev pub marks_of : MarkSets → Marks
marks_of s = record { a = s.a; b = s.b }

-- the marks of two sets, where they are given
abbrev pub marks_in : Option MarkSets → Option Marks
marks_in sets = option_map marks_of sets

-- the edges that the marks make, where marks are asked for
abbrev pub AreMarkEdges : Option Marks → List (List Rect) → Option (List (ℕ × ℕ)) → Type 0
AreMarkEdges None parts None = Unit {0}
AreMarkEdges None parts (Some edges) = ⊥
AreMarkEdges (Some m) parts None = ⊥
AreMarkEdges (Some m) parts (Some edges) = AreEdges (MarkEdge m parts) edges

-- edges of pieces by their vertices
abbrev pub moved : List (ℕ × ℕ) → List (ℕ × ℕ)
moved edges = map (λ (e : ℕ × ℕ). (e.0 + 2, e.1 + 2)) edges

-- the edges of the marks, and then those of pieces by their vertices
abbrev pub with_marks : Option (List (ℕ × ℕ)) → List (ℕ × ℕ) → List (ℕ × ℕ)
with_marks None edges = edges
with_marks (Some marked) edges = marked ++ moved edges

-- the letters of so many pieces, from colours of the vertices by what sums up the graph; where fewer stitches are asked for, from those with fewer
abbrev pub AreLettersOf : Bool → Option Marks → Joined → ℕ → List (ℕ × ℕ) → List Bool → Type 0
AreLettersOf fewer marks joined count sides letters =
    (colours : List Bool) × ColoursBy fewer (fixed_by marks) joined (vertex marks count) (sides_by marks sides) colours × (letters ≡ letters_by marks colours)

-- the same, where marks are asked for
abbrev pub AreAnchoredLetters : Bool → Joined → ℕ → List (ℕ × ℕ) → List Bool → Type 0
AreAnchoredLetters fewer joined count sides letters =
    (colours : List Bool) × ColoursBy fewer (Some 0) joined (count + 2) (moved sides) colours × (letters ≡ drop 2 colours)

-- ---- vertices, and how two of them are joined

abbrev pub vertex_of : ℕ → Vertex
vertex_of zero = Anchor false
vertex_of (suc zero) = Anchor true
vertex_of (suc (suc k)) = Piece k

-- an anchor, or one of so many pieces
abbrev pub IsKnown : ℕ → Vertex → Type 0
IsKnown n (Anchor b) = Unit {0}
IsKnown n (Piece k) = k < n

-- the place of a vertex in a cycle
abbrev pub place_of : List Pt → Vertex → PlaceLine
place_of keys (Anchor b) = AnchorLine b
place_of keys (Piece k) = place_line keys k

-- the squares that join a piece to the anchor of mask B, or to that of mask A: those that are fixed to the other mask
abbrev pub set_against : Marks → Bool → List Rect
set_against m false = m.b
set_against m true = m.a

-- what joins two vertices
abbrev pub AreLinked : Marks → Spacing → List (List Rect) → Vertex → Vertex → Type 0
AreLinked m spacing pieces (Piece i) (Piece j) = (i < length pieces) × (j < length pieces) × AreNear spacing (part_at pieces i) (part_at pieces j)
AreLinked m spacing pieces (Piece i) (Anchor b) = (i < length pieces) × HasSome (part_at pieces i) (Covers (set_against m b))
AreLinked m spacing pieces (Anchor b) (Piece j) = (j < length pieces) × HasSome (part_at pieces j) (Covers (set_against m b))
AreLinked m spacing pieces (Anchor b) (Anchor c) = Unit {0}

-- a line of one marked square
abbrev pub ShowsSquare : (Pt → Type 0) → NearLine → Type 0
ShowsSquare is (Pair p q) = ⊥
ShowsSquare is (Mark p) = is p
ShowsSquare is Anchors = ⊥

-- a line that shows what joins two vertices: the least pair of near squares, the least square that joins a piece to an anchor, or that both are anchors
abbrev pub ShowsLink : Marks → Spacing → List (List Rect) → Vertex → Vertex → NearLine → Type 0
ShowsLink m spacing pieces (Piece i) (Piece j) line = ShowsPair (IsNearestPair spacing (part_at pieces i) (part_at pieces j)) line
ShowsLink m spacing pieces (Piece i) (Anchor b) line = ShowsSquare (IsLeast (λ p. part_at pieces i p × Covers (set_against m b) p)) line
ShowsLink m spacing pieces (Anchor b) (Piece j) line = ShowsSquare (IsLeast (λ p. part_at pieces j p × Covers (set_against m b) p)) line
ShowsLink m spacing pieces (Anchor b) (Anchor c) line = line ≡ Anchors

-- for each vertex of the cycle a line that shows what joins it to the next one, the last to the first
pub record AreLinksOf (m : Marks) (spacing : Spacing) (pieces : List (List Rect)) (cycle : List ℕ) (near : List NearLine) : Type 0 where
  pub each : length near ≡ length cycle
  pub link : (k : ℕ) (d : NearLine) → k < length cycle
      → ShowsLink m spacing pieces (vertex_of (slice_index cycle k)) (vertex_of (slice_index cycle ((k + 1) % length cycle))) (slice_index_or near k d)
