-- Rectangles in slices of rows.
use Rattle.std.specs.Prelude.{◌≡◌, ◌⊎◌, ◌↔◌, ℤ, ◌≤ℤ◌, ◌<ℤ◌, List}
use Rattle.std.specs.List.{AllPairs, Contains}
use Rattle.dpl_spec_split.specs.declared.Pt.{Pt}
use Rattle.dpl_spec_split.specs.declared.Rect.{Rect}
use Rattle.dpl_spec_split.specs.Squares.{Region, SameSquares, Has, Covers}
use Rattle.dpl_spec_split.specs.Slabs.{IsSolid}
use Rattle.dpl_spec_split.specs.Loops.{farthest, IsRectWithin, AreRectsWithin}
use Rattle.dpl_order.specs.Pieces.{AreApart}
use Rattle.dpl_slabs.specs.Rows.{IsLeftOf}

-- the squares of a set in rows low to high - 1
abbrev pub InRows : ℤ → ℤ → Region → Region
InRows low high a p = a p × (low ≤ℤ p.y) × (p.y <ℤ high)

-- the squares that rectangles have and no hole has
abbrev pub Without : List Rect → List Rect → Region
Without rects holes p = Covers rects p × ¬ Covers holes p

-- the part of a rectangle in rows low to high - 1, which may have no square
pub record IsPartOf (low high : ℤ) (r part : Rect) : Type 0 where
  pub has : (p : Pt) → Has part p ↔ InRows low high (Has r) p
  pub within : IsSolid part → IsRectWithin farthest r → IsRectWithin farthest part

-- a bar has all of the rows
pub record IsBar (low high : ℤ) (r : Rect) : Type 0 where
  pub solid : IsSolid r
  pub first : r.y0 ≡ low
  pub end : r.y1 ≡ high

-- in the same rows, and it begins in the columns of the last one or at their end
pub record Widens (last bar : Rect) : Type 0 where
  pub low : last.y0 ≡ bar.y0
  pub high : last.y1 ≡ bar.y1
  pub after : last.x0 ≤ℤ bar.x0
  pub touches : bar.x0 ≤ℤ last.x1

-- a bar was added, by itself or to another one
pub record PushesBar (old new : List Rect) (bar : Rect) : Type 0 where
  pub full : (low high : ℤ) → IsBar low high bar → (s : Rect) → Contains new s → Contains old s ⊎ IsBar low high s
  pub covers : (p : Pt) → Covers new p ↔ (Covers old p ⊎ Has bar p)
  pub within : IsRectWithin farthest bar → AreRectsWithin farthest old → AreRectsWithin farthest new

-- bars and other rectangles that have the squares of these rectangles in the rows
pub record ArePartsOf (low high : ℤ) (rects bars others : List Rect) : Type 0 where
  pub full : (r : Rect) → Contains bars r → IsBar low high r
  pub covers : (p : Pt) → (Covers bars p ⊎ Covers others p) ↔ InRows low high (Covers rects) p
  pub full_within : AreRectsWithin farthest bars
  pub within : AreRectsWithin farthest others

-- the part of one more rectangle was added to the bars, or to the others
pub record AddsPart (low high : ℤ) (r : Rect) (bars others new new_others : List Rect) : Type 0 where
  pub full : (s : Rect) → Contains new s → Contains bars s ⊎ IsBar low high s
  pub covers : (p : Pt) → (Covers new p ⊎ Covers new_others p) ↔ ((Covers bars p ⊎ Covers others p) ⊎ InRows low high (Has r) p)
  pub full_within : AreRectsWithin farthest bars → AreRectsWithin farthest new
  pub within : AreRectsWithin farthest others → AreRectsWithin farthest new_others

-- bars of all of the rows with a column between any two, and other rectangles, that have the squares of these rectangles in the rows
pub record IsCutTo (low high : ℤ) (rects bars others : List Rect) : Type 0 where
  pub full : (r : Rect) → Contains bars r → IsBar low high r
  pub left : AllPairs IsLeftOf bars
  pub covers : (p : Pt) → (Covers bars p ⊎ Covers others p) ↔ InRows low high (Covers rects) p
  pub bars_within : AreRectsWithin farthest bars
  pub within : AreRectsWithin farthest others

-- pieces of a set's squares below a row
pub record ArePiecesBelow (row : ℤ) (a : Region) (pieces : List Rect) : Type 0 where
  pub apart : AreApart pieces
  pub under : (r : Rect) → Contains pieces r → r.y1 ≤ℤ row
  pub covers : (p : Pt) → Covers pieces p ↔ (a p × (p.y <ℤ row))

-- pieces of all squares of a set
pub record ArePiecesOf (a : Region) (pieces : List Rect) : Type 0 where
  pub apart : AreApart pieces
  pub covers : SameSquares (Covers pieces) a
