-- The one list of rectangles that stands for a set of squares.
use Rattle.std.specs.Prelude.{◌≡◌, ◌⊎◌, ◌<ℤ◌, List}
use Rattle.std.specs.List.{All, AllPairs}
use Rattle.dpl_spec_split.specs.declared.Rect.{Rect}
use Rattle.dpl_spec_split.specs.Squares.{Region, SameSquares, Covers}

pub record IsSolid (r : Rect) : Type 0 where
  pub wide : r.x0 <ℤ r.x1
  pub tall : r.y0 <ℤ r.y1

-- rectangles go by lowest row, then by leftmost column
abbrev pub Before : Rect → Rect → Type 0
Before a b = (a.y0 <ℤ b.y0) ⊎ ((a.y0 ≡ b.y0) × (a.x0 <ℤ b.x0))

abbrev pub ShareRow : Rect → Rect → Type 0
ShareRow a b = (a.y0 <ℤ b.y1) × (b.y0 <ℤ a.y1)

-- a column lies between them
abbrev pub StandApart : Rect → Rect → Type 0
StandApart a b = (a.x1 <ℤ b.x0) ⊎ (b.x1 <ℤ a.x0)

-- b stands directly on a, with the same columns
pub record StandsOn (a b : Rect) : Type 0 where
  pub row : b.y0 ≡ a.y1
  pub left : b.x0 ≡ a.x0
  pub right : b.x1 ≡ a.x1

-- what holds of a slab and each later one
pub record Follows (a b : Rect) : Type 0 where
  pub before : Before a b
  pub apart : ShareRow a b → StandApart a b
  pub separate : ¬ StandsOn a b

pub record IsCanonical (rs : List Rect) : Type 0 where
  pub solid : All IsSolid rs
  pub follow : AllPairs Follows rs

-- the canonical slabs of a set
pub record AreSlabsOf (a : Region) (rs : List Rect) : Type 0 where
  pub canonical : IsCanonical rs
  pub covers : SameSquares (Covers rs) a
