-- Bars that stand apart from all else.
use Rattle.std.specs.Prelude.{ℕ, ◌<◌, ◌≤◌, ◌⊎◌, ◌↔◌, ℤ, ◌≤ℤ◌, ◌<ℤ◌, List, length, slice_index_or}
use Rattle.std.specs.List.{AllPairs, Contains}
use Rattle.dpl_spec_split.specs.declared.Pt.{Pt}
use Rattle.dpl_spec_split.specs.declared.Rect.{Rect}
use Rattle.dpl_spec_split.specs.Squares.{Covers}
use Rattle.dpl_spec_split.specs.Slabs.{StandApart}

-- rectangles go by left column
abbrev pub LeftsRise : List Rect → Type 0
LeftsRise rs = (i j : ℕ) (d : Rect) → i ≤ j → j < length rs → (slice_index_or rs i d).x0 ≤ℤ (slice_index_or rs j d).x0

-- the first n end at the column or left of it
abbrev pub ReachTo : List Rect → ℕ → ℤ → Type 0
ReachTo rs n x = (k : ℕ) (d : Rect) → k < n → k < length rs → (slice_index_or rs k d).x1 ≤ℤ x

-- the first n end at column reach or left of it, and all others begin right of column x
pub record IsPrefixAt (rs : List Rect) (x : ℤ) (n : ℕ) (reach : ℤ) : Type 0 where
  pub passed : ReachTo rs n reach
  pub ahead : (k : ℕ) (d : Rect) → n ≤ k → k < length rs → x <ℤ (slice_index_or rs k d).x0

-- a column lies between each of the one and each of the other
abbrev pub KeepOff : List Rect → List Rect → Type 0
KeepOff rs ss = (r s : Rect) → Contains rs r → Contains ss s → StandApart r s

-- bars that stand apart from all others and from all rectangles beside them; the rest of the bars was added to the others
pub record AreAlone (bars beside old new alone : List Rect) : Type 0 where
  pub apart : AllPairs StandApart alone
  pub members : (r : Rect) → Contains alone r → Contains bars r
  pub others : (r : Rect) → Contains new r → Contains old r ⊎ Contains bars r
  pub off : KeepOff alone new
  pub off_beside : KeepOff alone beside
  pub covers : (p : Pt) → (Covers alone p ⊎ Covers new p) ↔ (Covers bars p ⊎ Covers old p)

-- each of the bars was added, or stands apart from all rectangles beside them
pub record AddsTouching (bars beside old new : List Rect) : Type 0 where
  pub kept : (r : Rect) → Contains old r → Contains new r
  pub others : (r : Rect) → Contains new r → Contains old r ⊎ Contains bars r
  pub apart : (r : Rect) → Contains bars r → Contains new r ⊎ ((s : Rect) → Contains beside s → StandApart r s)
