-- The rectangles of a list that have squares in a band.
use Rattle.std.specs.Prelude.{ℕ, ◌≤◌, ◌<◌, ◌⊎◌, ◌↔◌, ℤ, ◌≤ℤ◌, ◌<ℤ◌, List, length, slice_index_or, drop}
use Rattle.std.specs.List.{Contains}
use Rattle.dpl_spec_split.specs.declared.Pt.{Pt}
use Rattle.dpl_spec_split.specs.declared.Rect.{Rect}
use Rattle.dpl_spec_split.specs.Squares.{Covers}

-- rectangles go by left column
abbrev pub LeftsRise : List Rect → Type 0
LeftsRise rs = (i j : ℕ) (d : Rect) → i ≤ j → j < length rs → (slice_index_or rs i d).x0 ≤ℤ (slice_index_or rs j d).x0

-- the rectangle has squares, some of them in the row or above it
pub record IsReaching (low : ℤ) (r : Rect) : Type 0 where
  pub wide : r.x0 <ℤ r.x1
  pub tall : low <ℤ r.y1

-- the rectangle has squares in each of the rows from low up to but not high
pub record IsAcross (low high : ℤ) (r : Rect) : Type 0 where
  pub wide : r.x0 <ℤ r.x1
  pub from : r.y0 ≤ℤ low
  pub to : high ≤ℤ r.y1

-- those of the rectangles were added that have squares in the row or above it
pub record AddsReaching (low : ℤ) (rs old new : List Rect) : Type 0 where
  pub covers : (p : Pt) → low ≤ℤ p.y → Covers new p ↔ (Covers old p ⊎ Covers rs p)
  pub members : (r : Rect) → Contains new r → Contains old r ⊎ (Contains rs r × IsReaching low r)

-- those rectangles of both lists that have squares in the row or above it, by left column
pub record AreGathered (low : ℤ) (active starts gathered : List Rect) : Type 0 where
  pub rise : LeftsRise gathered
  pub covers : (p : Pt) → low ≤ℤ p.y → Covers gathered p ↔ (Covers active p ⊎ Covers starts p)
  pub members : (r : Rect) → Contains gathered r → (Contains active r ⊎ Contains starts r) × IsReaching low r

-- the squares of all rectangles in the row or above it are those of rectangles that begin in it or below it, and of all but the first
pub record AreActive (row : ℤ) (all : List Rect) (begun : ℕ) (active : List Rect) : Type 0 where
  pub within : begun ≤ length all
  pub low : (r : Rect) → Contains active r → r.y0 ≤ℤ row
  pub covers : (p : Pt) → row ≤ℤ p.y → (Covers active p ⊎ Covers (drop begun all) p) ↔ Covers all p

-- the squares of all rectangles in the row or above it are those of rectangles that have squares in it, by left column, and of all but the first, which begin above it
pub record HaveBegun (row : ℤ) (all : List Rect) (begun : ℕ) (active : List Rect) : Type 0 where
  pub are : AreActive row all begun active
  pub rise : LeftsRise active
  pub reach : (r : Rect) → Contains active r → IsReaching row r
  pub ahead : (r : Rect) → Contains (drop begun all) r → row <ℤ r.y0

-- in the rows from low up to but not high, all rectangles have the squares of these, each of which has all these rows
pub record FillBand (low high : ℤ) (all active : List Rect) : Type 0 where
  pub rise : LeftsRise active
  pub across : (r : Rect) → Contains active r → IsAcross low high r
  pub covers : (p : Pt) → low ≤ℤ p.y → p.y <ℤ high → Covers active p ↔ Covers all p
