-- Zones of a slab, in the middle of spans of rows that aren't near other rectangles.
use Rattle.std.specs.Prelude.{◌≡◌, ℕ, ◌+◌, ◌⊎◌, ◌↔◌, ℤ, pos, ◌+ℤ◌, ◌-ℤ◌, ◌≤ℤ◌, ◌<ℤ◌, List}
use Rattle.std.specs.List.{Any, Contains}
use Rattle.dpl_spec_split.specs.declared.Spacing.{Spacing}
use Rattle.dpl_spec_split.specs.declared.Rect.{Rect}
use Rattle.dpl_spec_split.specs.Squares.{Region, Covers}
use Rattle.dpl_shade.specs.Rows.{GoesAbove, GoesBelow, IsLit, IsShaded}
use Rattle.dpl_shade.specs.declared.rows.Span.{Span}

-- some rectangle shades row y of the slab
abbrev pub IsDark : Spacing → List Rect → Rect → ℤ → Type 0
IsDark spacing others slab y = Any (λ other. IsShaded spacing slab other y) others

-- the middle rows of a span, over all columns of the slab; an odd row is left over at the top
pub record IsMiddleOf (overlap : ℕ) (slab : Rect) (g : Span) (z : Rect) : Type 0 where
  pub left : z.x0 ≡ slab.x0
  pub right : z.x1 ≡ slab.x1
  pub height : z.y1 ≡ z.y0 +ℤ pos overlap
  pub middle : let before = z.y0 -ℤ g.from in let after = g.to -ℤ z.y1 in (after ≡ before) ⊎ (after ≡ before +ℤ pos 1)

-- the span is long enough, and the feature goes on beyond both ends
pub record IsOpenSpan (overlap : ℕ) (slab : Rect) (below above : Type 0) (g : Span) : Type 0 where
  pub long : (g.from +ℤ pos (overlap + 2)) ≤ℤ g.to
  pub low : (slab.y0 <ℤ g.from) ⊎ below
  pub high : (g.to <ℤ slab.y1) ⊎ above

-- the zone lies in the middle of a span of the slab that isn't dark; whether the feature goes on directly below and above the slab is told
pub record IsLitZone (overlap : ℕ) (below above : Type 0) (dark : ℤ → Type 0) (slab z : Rect) : Type 0 where
  pub g : Span
  pub lit : IsLit slab.y0 slab.y1 dark g
  pub open_span : IsOpenSpan overlap slab below above g
  pub middle : IsMiddleOf overlap slab g z

-- the zone lies in the middle of a lit span of the slab
abbrev pub IsSlabZone : Spacing → ℕ → List Rect → List Rect → Rect → Rect → Type 0
IsSlabZone spacing overlap rects others slab = IsLitZone overlap (GoesBelow rects slab) (GoesAbove rects slab) (IsDark spacing others slab) slab

-- the list has these zones too
abbrev pub AddsZones : (Rect → Type 0) → List Rect → List Rect → Type 0
AddsZones adds old new = (z : Rect) → Contains new z ↔ (Contains old z ⊎ adds z)

-- the squares of the feature and of the other features
abbrev pub layer_of : List Rect → List Rect → Region
layer_of rects others p = Covers rects p ⊎ Covers others p
