-- Marks: squares of a layer that are fixed to a mask, and the conflict graph with an anchor for each mask.
use Rattle.std.specs.Prelude.{◌≡◌, ℕ, ◌+◌, ◌<◌, ◌⊎◌, Bool, true, false, List, length, map, drop, Option, Some, None}
use Rattle.dpl_spec_split.specs.declared.Spacing.{Spacing}
use Rattle.dpl_spec_split.specs.declared.Pt.{Pt}
use Rattle.dpl_spec_split.specs.declared.Rect.{Rect}
use Rattle.dpl_spec_split.specs.Squares.{Region, SameSquares, Covers}
use Rattle.dpl_spec_split.specs.Zones.{part_at}
use Rattle.dpl_spec_split.specs.Pieces.{Conflict}
use Rattle.dpl_spec_split.specs.Graphs.{Graph}

-- squares that are fixed to mask A, and squares that are fixed to mask B; one may be in both
pub record Marks : Type 0 where
  pub a : List Rect
  pub b : List Rect

-- the squares that are fixed to mask A: none where no marks are asked for
abbrev pub marked_a : Option Marks → Region
marked_a None p = ⊥
marked_a (Some m) p = Covers m.a p

-- those that are fixed to mask B
abbrev pub marked_b : Option Marks → Region
marked_b None p = ⊥
marked_b (Some m) p = Covers m.b p

-- those that are fixed to some mask
abbrev pub marked_by : Option Marks → Region
marked_by marks p = marked_a marks p ⊎ marked_b marks p

-- marks of two sets, or none
abbrev pub asked : Bool → List Rect → List Rect → Option Marks
asked true a b = Some (record { a = a; b = b })
asked false a b = None

-- marks that fix just the squares of two sets
pub record AreMarks (a b : List Rect) (marks : Option Marks) : Type 0 where
  pub on_a : SameSquares (Covers a) (marked_a marks)
  pub on_b : SameSquares (Covers b) (marked_b marks)

-- the piece has a square of the set
abbrev pub HasSome : Region → Region → Type 0
HasSome piece set = (p : Pt) × piece p × set p

-- Where marks are asked for, vertex 0 is the anchor of mask A, vertex 1 that of mask B, and piece k is vertex k + 2. So n pieces make vertex n vertices.
abbrev pub vertex : Option Marks → ℕ → ℕ
vertex None k = k
vertex (Some m) k = k + 2

-- The anchors are joined, and a marked piece is joined to the anchor of the mask that it isn't fixed to. The smaller end stands first.
pub data MarkEdge (m : Marks) (pieces : List (List Rect)) (u v : ℕ) : Type 0 where
  anchors : u ≡ 0 → v ≡ 1 → MarkEdge m pieces u v
  fixed_to_b : (k : ℕ) → k < length pieces → HasSome (part_at pieces k) (Covers m.b) → u ≡ 0 → v ≡ k + 2 → MarkEdge m pieces u v
  fixed_to_a : (k : ℕ) → k < length pieces → HasSome (part_at pieces k) (Covers m.a) → u ≡ 1 → v ≡ k + 2 → MarkEdge m pieces u v

-- what joins vertices: conflicts of pieces, and marks
pub data Anchored (spacing : Spacing) (m : Marks) (pieces : List (List Rect)) (owners : List ℕ) (u v : ℕ) : Type 0 where
  conflict : (i j : ℕ) → Conflict spacing pieces owners i j → u ≡ i + 2 → v ≡ j + 2 → Anchored spacing m pieces owners u v
  up : MarkEdge m pieces u v → Anchored spacing m pieces owners u v
  down : MarkEdge m pieces v u → Anchored spacing m pieces owners u v

-- the graph of conflicts, with anchors where marks are asked for
abbrev pub graph : Option Marks → Spacing → List (List Rect) → List ℕ → Graph
graph None spacing pieces owners = Conflict spacing pieces owners
graph (Some m) spacing pieces owners = Anchored spacing m pieces owners

-- the two sides of each zone, by vertices
abbrev pub sides_by : Option Marks → List (ℕ × ℕ) → List (ℕ × ℕ)
sides_by None sides = sides
sides_by (Some m) sides = map (λ side. (side.0 + 2, side.1 + 2)) sides

-- the letters of the pieces, from those of the vertices
abbrev pub letters_by : Option Marks → List Bool → List Bool
letters_by None colours = colours
letters_by (Some m) colours = drop 2 colours
