-- Rectangles less holes, swept from the lowest row up.
use Rattle.std.specs.Prelude.{◌≡◌, ℕ, ◌≤◌, ◌<◌, ◌⊎◌, ◌↔◌, ℤ, ◌≤ℤ◌, ◌<ℤ◌, List, length, slice_index_or, take}
use Rattle.dpl_spec_split.specs.declared.Pt.{Pt}
use Rattle.dpl_spec_split.specs.declared.Rect.{Rect}
use Rattle.dpl_spec_split.specs.Squares.{Region, Has, Covers}

-- the squares that rectangles have and no hole has
abbrev pub Left : List Rect → List Rect → Region
Left rects holes p = Covers rects p × ¬ Covers holes p

-- the part in the rows from low up to but not high of a rectangle that has all of them
abbrev pub bar_in : ℤ → ℤ → Rect → Rect
bar_in low high r = record { x0 = r.x0; y0 = low; x1 = r.x1; y1 = high }

-- the bar, up to the later end of both
pub record IsWidened (bar r next : Rect) : Type 0 where
  pub left : next.x0 ≡ bar.x0
  pub low : next.y0 ≡ bar.y0
  pub high : next.y1 ≡ bar.y1
  pub over : bar.x1 ≤ℤ next.x1
  pub past : r.x1 ≤ℤ next.x1
  pub known : (next.x1 ≡ bar.x1) ⊎ (next.x1 ≡ r.x1)

-- columns from from to to - 1 of the bar
abbrev pub columns_of : Rect → ℤ → ℤ → Rect
columns_of bar from to = record { x0 = from; y0 = bar.y0; x1 = to; y1 = bar.y1 }

-- the first gaps end at the column or left of it, and in the rows of the bar gaps have all columns from x up to but not this one
pub record ArePassed (bar : Rect) (gaps : List Rect) (x : ℤ) (count : ℕ) (reach : ℤ) : Type 0 where
  pub within : count ≤ length gaps
  pub ends : (k : ℕ) (d : Rect) → k < count → (slice_index_or gaps k d).x1 ≤ℤ reach
  pub taken : (p : Pt) → bar.y0 ≤ℤ p.y → p.y <ℤ bar.y1 → x ≤ℤ p.x → p.x <ℤ reach → Covers gaps p

-- what gaps leave of the bar's columns left of x was added, and the first n gaps end at x or left of it
pub record IsCutUpTo (bar : Rect) (gaps : List Rect) (n : ℕ) (x : ℤ) (old new : List Rect) : Type 0 where
  pub covers : (p : Pt) → Covers new p ↔ (Covers old p ⊎ (Has bar p × (p.x <ℤ x) × ¬ Covers gaps p))
  pub from : bar.x0 ≤ℤ x
  pub passed : ArePassed bar gaps bar.x1 n x

-- what gaps leave of the bar was added
pub record AddsWithout (bar : Rect) (gaps old new : List Rect) : Type 0 where
  pub covers : (p : Pt) → Covers new p ↔ (Covers old p ⊎ (Has bar p × ¬ Covers gaps p))

-- the squares that gaps leave of rectangles in the rows from low up to but not high were added
pub record AddsBand (low high : ℤ) (active gaps old new : List Rect) : Type 0 where
  pub covers : (p : Pt) → Covers new p ↔ (Covers old p ⊎ ((low ≤ℤ p.y) × (p.y <ℤ high) × Left active gaps p))

-- what gaps leave of the first n of the rectangles in these rows was added, but for the last bar
pub record ArePutUpTo (low high : ℤ) (active gaps : List Rect) (n : ℕ) (old new : List Rect) (bar : Rect) : Type 0 where
  pub wide : bar.x0 <ℤ bar.x1
  pub first : bar.y0 ≡ low
  pub last : bar.y1 ≡ high
  pub covers : (p : Pt) → (Covers new p ⊎ (Has bar p × ¬ Covers gaps p)) ↔ (Covers old p ⊎ ((low ≤ℤ p.y) × (p.y <ℤ high) × Left (take n active) gaps p))
  pub left : (k : ℕ) (d : Rect) → n ≤ k → k < length active → bar.x0 ≤ℤ (slice_index_or active k d).x0

-- the pieces have the squares of rectangles below the row that no hole has
abbrev pub AreSweptTo : ℤ → List Rect → List Rect → List Rect → Type 0
AreSweptTo row rects holes pieces = (p : Pt) → p.y <ℤ row → Covers pieces p ↔ Left rects holes p
