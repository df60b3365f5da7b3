-- Rows of a slab: those near other rectangles, and the spans between them; and whether its owner goes on beyond it.
use Rattle.std.specs.Prelude.{◌≡◌, ℕ, ◌<◌, ◌≤◌, ◌⊎◌, ◌↔◌, ℤ, pos, ◌-ℤ◌, ◌≤ℤ◌, ◌<ℤ◌, List, length, slice_index_or}
use Rattle.std.specs.List.{Any, Contains}
use Rattle.dpl_spec_split.specs.declared.Spacing.{Spacing}
use Rattle.dpl_spec_split.specs.declared.Pt.{Pt}
use Rattle.dpl_spec_split.specs.declared.Rect.{Rect}
use Rattle.dpl_spec_split.specs.Loops.{farthest}
use Rattle.dpl_spec_split.specs.Squares.{Has, Covers, IsSolidWithin, Near}
use Rattle.dpl_spec_split.specs.Zones.{at, transposed, GoesOn}
use Rattle.dpl_shade.specs.declared.rows.Span.{Span}

pub record InRows (s : Span) (y : ℤ) : Type 0 where
  pub from : s.from ≤ℤ y
  pub below : y <ℤ s.to

abbrev pub SomeRow : List Span → ℤ → Type 0
SomeRow spans y = Any (λ s. InRows s y) spans

abbrev pub AreTall : List Span → Type 0
AreTall spans = (k : ℕ) (d : Span) → k < length spans → (slice_index_or spans k d).from <ℤ (slice_index_or spans k d).to

abbrev pub RiseByFrom : List Span → Type 0
RiseByFrom spans = (i j : ℕ) (d : Span) → i ≤ j → j < length spans → (slice_index_or spans i d).from ≤ℤ (slice_index_or spans j d).from

-- the slab has in row y a square near one of the other rectangle
pub record IsShaded (spacing : Spacing) (slab other : Rect) (y : ℤ) : Type 0 where
  pub x : ℤ
  pub q : Pt
  pub left : slab.x0 ≤ℤ x
  pub right : x <ℤ slab.x1
  pub has : Has other q
  pub near : Near spacing (at x y) q

pub record IsShadow (spacing : Spacing) (slab other : Rect) (s : Span) : Type 0 where
  pub some : s.from <ℤ s.to
  pub rows : (y : ℤ) → InRows s y ↔ IsShaded spacing slab other y

-- a span of rows that no other span has, as long as it can be
pub record IsGap (low high : ℤ) (spans : List Span) (g : Span) : Type 0 where
  pub from : low ≤ℤ g.from
  pub some : g.from <ℤ g.to
  pub to : g.to ≤ℤ high
  pub free : (y : ℤ) → InRows g y → ¬ SomeRow spans y
  pub bottom : (g.from ≡ low) ⊎ SomeRow spans (g.from -ℤ pos 1)
  pub top : (g.to ≡ high) ⊎ SomeRow spans g.to

-- the rows low to end - 1 are added, where there are any
abbrev pub AddsSpan : ℤ → ℤ → List Span → List Span → Type 0
AddsSpan low end old new =
    ((s : Span) → Contains new s ↔ (Contains old s ⊎ ((low <ℤ end) × (s.from ≡ low) × (s.to ≡ end))))

-- the rectangles have a square directly below the slab, at most one column beside it
abbrev pub GoesBelow : List Rect → Rect → Type 0
GoesBelow rects s = GoesOn (transposed (Covers rects)) s.x0 s.x1 (s.y0 -ℤ pos 1)

-- the rectangles have a square directly above the slab, at most one column beside it
abbrev pub GoesAbove : List Rect → Rect → Type 0
GoesAbove rects s = GoesOn (transposed (Covers rects)) s.x0 s.x1 s.y1

-- rows that aren't dark, as many as there are side by side from row low up to row high
pub record IsLit (low high : ℤ) (dark : ℤ → Type 0) (g : Span) : Type 0 where
  pub from : low ≤ℤ g.from
  pub some : g.from <ℤ g.to
  pub to : g.to ≤ℤ high
  pub free : (y : ℤ) → InRows g y → ¬ dark y
  pub bottom : (g.from ≡ low) ⊎ dark (g.from -ℤ pos 1)
  pub top : (g.to ≡ high) ⊎ dark g.to

-- solid rectangles in the range of a layer
abbrev pub AreWithin : List Rect → Type 0
AreWithin rs = (k : ℕ) (d : Rect) → k < length rs → IsSolidWithin farthest (slice_index_or rs k d)
