-- Bars side by side in one row.
use Rattle.std.specs.Prelude.{◌≡◌, ℕ, ◌<◌, ◌≤◌, ◌⊎◌, ◌↔◌, ◌≤ℤ◌, ◌<ℤ◌, List, [], ◌∷◌, ◌++◌, length, take, slice_index_or}
use Rattle.std.specs.List.{All, AllPairs, Contains}
use Rattle.dpl_spec_split.specs.declared.Pt.{Pt}
use Rattle.dpl_spec_split.specs.declared.Rect.{Rect}
use Rattle.dpl_spec_split.specs.Squares.{Has, Covers}
use Rattle.dpl_spec_split.specs.Slabs.{IsSolid}

-- the two have the same rows
pub record AreLevel (r s : Rect) : Type 0 where
  pub low : r.y0 ≡ s.y0
  pub high : r.y1 ≡ s.y1

-- all have squares, in the same rows
pub record IsRow (rs : List Rect) : Type 0 where
  pub solid : (r : Rect) → Contains rs r → IsSolid r
  pub level : (r s : Rect) → Contains rs r → Contains rs s → AreLevel r s

-- a column lies between the two, in the same rows
pub record IsLeftOf (a b : Rect) : Type 0 where
  pub apart : a.x1 <ℤ b.x0
  pub level : AreLevel a b

-- bars of the same rows, with a column between any two
pub record AreSpaced (bars : List Rect) : Type 0 where
  pub row : IsRow bars
  pub left : AllPairs IsLeftOf bars

-- each of the one has the rows of each of the other
abbrev pub AreAllLevel : List Rect → List Rect → Type 0
AreAllLevel rs ss = (r s : Rect) → Contains rs r → Contains ss s → AreLevel r s

-- the bar from the last one's first column up to the later end of both
pub record IsWider (last bar next : Rect) : Type 0 where
  pub left : next.x0 ≡ last.x0
  pub level : AreLevel last next
  pub over : last.x1 ≤ℤ next.x1
  pub past : bar.x1 ≤ℤ next.x1
  pub known : (next.x1 ≡ last.x1) ⊎ (next.x1 ≡ bar.x1)

-- the bar comes after the last one, or makes it wider
abbrev pub IsBarJoined : List Rect → Rect → Rect → List Rect → Rect → Type 0
IsBarJoined done last bar new next =
    ((last.x1 <ℤ bar.x0) × (new ≡ done ++ last ∷ []) × (next ≡ bar))
    ⊎ ((bar.x0 ≤ℤ last.x1) × (new ≡ done) × IsWider last bar next)

-- the slabs of the first n bars of a row: those that are done, and the last
pub record AreBarsSoFar (row : List Rect) (n : ℕ) (done : List Rect) (last : Rect) : Type 0 where
  pub solid : All IsSolid done
  pub last_solid : IsSolid last
  pub level : (q : Rect) → Contains row q → AreLevel last q
  pub apart : AllPairs IsLeftOf done
  pub before : (a : Rect) → Contains done a → IsLeftOf a last
  pub left : (k : ℕ) (d : Rect) → n ≤ k → k < length row → last.x0 ≤ℤ (slice_index_or row k d).x0
  pub covers : (p : Pt) → (Covers done p ⊎ Has last p) ↔ Covers (take n row) p

-- of the first n bars a column lies between any two, which go by column
abbrev pub RisesTo : List Rect → ℕ → Type 0
RisesTo row n = (j k : ℕ) (d : Rect) → j < k → k < n → k < length row → (slice_index_or row j d).x1 <ℤ (slice_index_or row k d).x0
