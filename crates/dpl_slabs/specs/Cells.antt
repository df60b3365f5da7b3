-- Rectangles, by sums over their squares and over their edges.
use Rattle.std.specs.Prelude.{◌≡◌, ◌⊎◌, Bool, cond, ◌&&◌, ℤ, pos, ◌+ℤ◌, ◌≤ℤ◌, List, [], ◌∷◌, map}
use Rattle.std.specs.List.{Contains}
use lib.Signed.{lt_z, le_z}
use Rattle.dpl_spec_split.specs.declared.Pt.{Pt}
use Rattle.dpl_spec_split.specs.declared.Rect.{Rect}
use Rattle.dpl_spec_split.specs.Squares.{Region}
use Rattle.dpl_spec_split.specs.Zones.{transposed_rect}
use Rattle.dpl_sweep.specs.declared.edge.Edge.{Edge}
use Rattle.dpl_sweep.specs.declared.edge.Rule.{Rule}
use Rattle.dpl_sweep.specs.Edges.{Holds, sum_left, change_a, change_b}
use Rattle.dpl_sweep.specs.Passes.{AreUnitEdges}

-- whether the rectangle has the square
abbrev pub has_square : Rect → Pt → Bool
has_square r p = (le_z r.x0 p.x && lt_z p.x r.x1) && (le_z r.y0 p.y && lt_z p.y r.y1)

-- a for each of the rectangles that has the square
abbrev pub cells : ℤ → List Rect → Pt → ℤ
cells a [] p = pos 0
cells a (r ∷ rs) p = cond (has_square r p) a (pos 0) +ℤ cells a rs p

-- the squares of two lists of rectangles that the rule takes
abbrev pub Chosen : Rule → List Rect → List Rect → Region
Chosen rule first second p = Holds rule (cells (pos 1) first p) (cells (pos 1) second p)

-- the rectangles' edges were added, whose squares' sums change by a and b
pub record AddsRects (a b : ℤ) (old new : List Edge) (rs : List Rect) : Type 0 where
  pub sums_a : (p : Pt) → sum_left change_a new p ≡ sum_left change_a old p +ℤ cells a rs p
  pub sums_b : (p : Pt) → sum_left change_b new p ≡ sum_left change_b old p +ℤ cells b rs p
  pub units : AreUnitEdges old → AreUnitEdges new
  pub keeps : (e : Edge) → Contains old e → Contains new e
  pub ends : (r : Rect) → Contains rs r → (r.x1 ≤ℤ r.x0) ⊎ ((e : Edge) × Contains new e × (e.x ≡ r.x1))

-- transposed
abbrev pub transposed_rects : List Rect → List Rect
transposed_rects rs = map transposed_rect rs
