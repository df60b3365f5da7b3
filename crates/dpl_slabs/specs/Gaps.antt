-- Gaps taken out of bars of the same rows.
use Rattle.std.specs.Prelude.{◌≡◌, ℕ, ◌≤◌, ◌<◌, ◌⊎◌, ◌↔◌, ℤ, pos, ◌+ℤ◌, ◌≤ℤ◌, ◌<ℤ◌, List, [], ◌∷◌, ◌++◌, length, take, slice_index_or}
use Rattle.std.specs.List.{Contains}
use Rattle.dpl_spec_split.specs.declared.Pt.{Pt}
use Rattle.dpl_spec_split.specs.declared.Rect.{Rect}
use Rattle.dpl_spec_split.specs.Squares.{Has, Covers}
use Rattle.dpl_slabs.specs.Rows.{AreLevel, AreSpaced}
use Rattle.dpl_bars.specs.Alone.{ReachTo}
use Rattle.dpl_slabs.specs.Slices.{Without}

-- columns from to to - 1 of the bar were added, where there are any
abbrev pub AddsColumns : Rect → ℤ → ℤ → List Rect → List Rect → Type 0
AddsColumns bar from to old new =
    ((to ≤ℤ from) × (new ≡ old))
    ⊎ ((from <ℤ to) × (new ≡ old ++ record { x0 = from; y0 = bar.y0; x1 = to; y1 = bar.y1 } ∷ []))

-- bars in the rows of this one, with a column between any two, that end left of column x
pub record LieBefore (bar : Rect) (x : ℤ) (bars : List Rect) : Type 0 where
  pub spaced : AreSpaced bars
  pub level : (r : Rect) → Contains bars r → AreLevel r bar
  pub ends : (r : Rect) → Contains bars r → r.x1 <ℤ x

-- x is a column of the bar; what gaps leave of its columns left of x was added, and all that is there now ends left of x; the first n gaps end at x or left of it
pub record IsCutUpTo (bar : Rect) (gaps old : List Rect) (n : ℕ) (x : ℤ) (new : List Rect) : Type 0 where
  pub before : LieBefore bar x new
  pub passed : ReachTo gaps n x
  pub covers : (p : Pt) → Covers new p ↔ (Covers old p ⊎ (Has bar p × (p.x <ℤ x) × ¬ Covers gaps p))
  pub from : bar.x0 ≤ℤ x
  pub ahead : x <ℤ bar.x1

-- what gaps leave of the bar was added, and nothing reaches past the bar; the first n gaps end at its end or left of it
pub record AddsBarWithout (bar : Rect) (gaps old new : List Rect) (n : ℕ) : Type 0 where
  pub before : LieBefore bar (bar.x1 +ℤ pos 1) new
  pub passed : ReachTo gaps n bar.x1
  pub covers : (p : Pt) → Covers new p ↔ (Covers old p ⊎ (Has bar p × ¬ Covers gaps p))

-- what gaps leave of the first n bars; it and the first m gaps lie left of the other bars
pub record AreLeftSoFar (bars gaps : List Rect) (n m : ℕ) (left : List Rect) : Type 0 where
  pub spaced : AreSpaced left
  pub covers : (p : Pt) → Covers left p ↔ Without (take n bars) gaps p
  pub before : (k : ℕ) (d : Rect) → n ≤ k → k < length bars → LieBefore (slice_index_or bars k d) (slice_index_or bars k d).x0 left
  pub passed : (k : ℕ) (d : Rect) → n ≤ k → k < length bars → ReachTo gaps m (slice_index_or bars k d).x0
