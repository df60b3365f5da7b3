-- The edges of a loop.
use Rattle.std.specs.Prelude.{◌≡◌, ℕ, cond, ℤ, pos, ◌-ℤ◌, ◌+ℤ◌, ◌<◌, ◌≤◌, ◌%◌, List, length, slice_index_or, unsigned_abs}
use Rattle.std.specs.List.{Contains}
use lib.Signed.{lt_z}
use Rattle.dpl_spec_split.specs.declared.Pt.{Pt}
use Rattle.dpl_spec_split.specs.declared.Rect.{Rect}
use Rattle.dpl_spec_split.specs.Squares.{Region, Covers, SameSquares}
use Rattle.dpl_spec_split.specs.Loops.{farthest, step, steps, winding, LoopCovers, IsPointWithin, ArePointsWithin, AreRectsWithin}
use Rattle.dpl_sweep.specs.declared.edge.Edge.{Edge}
use Rattle.dpl_sweep.specs.Edges.{sum_left, change_a, change_b}
use Rattle.dpl_sweep.specs.Passes.{AreLeft, AreUnitEdges}

-- 1 below row y
abbrev pub above : Pt → ℤ → ℤ
above s y = cond (lt_z s.y y) (pos 1) (pos 0)

-- the edge's numbers are within bound of 0
pub record IsEdgeWithin (bound : ℕ) (e : Edge) : Type 0 where
  pub column : unsigned_abs e.x ≤ bound
  pub low : unsigned_abs e.y0 ≤ bound
  pub high : unsigned_abs e.y1 ≤ bound

abbrev pub AreEdgesWithin : ℕ → List Edge → Type 0
AreEdgesWithin bound es = (e : Edge) → Contains es e → IsEdgeWithin bound e

-- the edge from p to q was added, unless it is level
pub record AddsStep (old new : List Edge) (p q : Pt) : Type 0 where
  pub sums_a : (s : Pt) → sum_left change_a new s ≡ sum_left change_a old s +ℤ step p q s
  pub sums_b : (s : Pt) → sum_left change_b new s ≡ sum_left change_b old s
  pub within : (bound : ℕ) → IsPointWithin bound p → IsPointWithin bound q → AreEdgesWithin bound old → AreEdgesWithin bound new
  pub units : AreUnitEdges old → AreUnitEdges new
  pub keeps : (e : Edge) → Contains old e → Contains new e
  pub level : (s : Pt) → AreLeft new s.x → step p q s ≡ above s q.y -ℤ above s p.y

-- the first n edges between points
pub record AreStepsOf (ps : List Pt) (n : ℕ) (es : List Edge) : Type 0 where
  pub sums_a : (s : Pt) → sum_left change_a es s ≡ steps ps n s
  pub sums_b : (s : Pt) → sum_left change_b es s ≡ pos 0
  pub within : (bound : ℕ) → ArePointsWithin bound ps → AreEdgesWithin bound es
  pub units : AreUnitEdges es
  pub level : (s : Pt) → AreLeft es s.x → steps ps n s ≡ above s (slice_index_or ps n s).y -ℤ above s (slice_index_or ps 0 s).y

-- all edges
pub record AreEdgesOf (ps : List Pt) (es : List Edge) : Type 0 where
  pub sums_a : (s : Pt) → sum_left change_a es s ≡ winding ps s
  pub sums_b : (s : Pt) → sum_left change_b es s ≡ pos 0
  pub within : (bound : ℕ) → ArePointsWithin bound ps → AreEdgesWithin bound es
  pub units : AreUnitEdges es
  pub level : (s : Pt) → AreLeft es s.x → winding ps s ≡ pos 0

-- one of the first n has the square, and is dealt to the worker
abbrev pub SomeDealtCovers : List (List Pt) → ℕ → ℕ → ℕ → Region
SomeDealtCovers loops worker workers n p = (k : ℕ) × (ps : List Pt) × (k < n) × (k % workers ≡ worker) × (k < length loops) × (slice_index_or loops k ps ≡ ps) × LoopCovers ps p

-- rectangles within the range of a layer that have the squares of a set
pub record AreRectsOf (a : Region) (rects : List Rect) : Type 0 where
  pub covers : SameSquares (Covers rects) a
  pub within : AreRectsWithin farthest rects
