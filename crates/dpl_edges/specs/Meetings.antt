-- Edges between pieces, found by pairs of slabs.
use Rattle.std.specs.Prelude.{◌≡◌, ◌⊎◌, ℕ, ◌<◌, ◌≤◌, ◌≤ℤ◌, ◌<ℤ◌, ◌+ℤ◌, pos}
use Rattle.dpl_spec_split.specs.declared.Spacing.{Spacing}
use Rattle.dpl_spec_split.specs.declared.Rect.{Rect}
use Rattle.dpl_spec_split.specs.Squares.{AreNear, Has}
use Rattle.dpl_spec_split.specs.Loops.{farthest}
use Rattle.dpl_join.specs.declared.items.Item.{Item}
use Rattle.dpl_edges.specs.InCells.{in_cell}

-- the two numbers, the smaller first
abbrev pub IsEnds : ℕ → ℕ → ℕ × ℕ → Type 0
IsEnds i k e = ((i < k) × (e ≡ (i, k))) ⊎ ((k ≤ i) × (e ≡ (k, i)))

-- some square of one slab in the cell is near some square of the other
abbrev pub MeetIn : Spacing → Rect → Item → Item → Type 0
MeetIn spacing cell a b = AreNear spacing (in_cell cell (Has a.rect)) (Has b.rect) ⊎ AreNear spacing (in_cell cell (Has b.rect)) (Has a.rect)

-- the edge of two slabs that meet in the cell
abbrev pub IsEdgeOf : Spacing → Rect → Item → Item → ℕ × ℕ → Type 0
IsEdgeOf spacing cell a b e = MeetIn spacing cell a b × IsEnds a.owner b.owner e

-- some square is in both
pub record HaveCommon (a b : Rect) : Type 0 where
  pub left : a.x0 <ℤ b.x1
  pub right : b.x0 <ℤ a.x1
  pub low : a.y0 <ℤ b.y1
  pub high : b.y0 <ℤ a.y1

-- the rectangle has all squares of a layer
pub record IsWhole (r : Rect) : Type 0 where
  pub left : (r.x0 +ℤ pos farthest) ≤ℤ pos 0
  pub right : pos farthest ≤ℤ r.x1
  pub low : (r.y0 +ℤ pos farthest) ≤ℤ pos 0
  pub high : pos farthest ≤ℤ r.y1
