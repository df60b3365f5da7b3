-- The search for the least square of a set that is near another.
use Rattle.std.specs.Prelude.{◌≡◌, ◌≢◌, ℕ, ◌<◌, ◌⊎◌, ℤ, ◌+ℤ◌, pos, FitsSigned, List, Option, Some, None, length, slice_index_or}
use Rattle.std.specs.Int.{w32}
use Rattle.dpl_spec_split.specs.declared.Spacing.{Spacing}
use Rattle.dpl_spec_split.specs.declared.Pt.{Pt}
use Rattle.dpl_spec_split.specs.declared.Rect.{Rect}
use Rattle.dpl_tree.specs.declared.items.Item.{Item}
use Rattle.dpl_tree.specs.declared.owners.Owners.{Owners}
use Rattle.dpl_tree.specs.declared.owners.Owners.TheVariants.{All, But, Only, Above}
use Rattle.dpl_tree.specs.Trees.{HasItem}
use Rattle.dpl_spec_split.specs.Slabs.{IsSolid}
use Rattle.dpl_spec_split.specs.Squares.{Region, Has, AreNear, IsLeast, Precedes, Near}

-- the squares of a that are near some square of b
abbrev pub near_part : Spacing → Region → Region → Region
near_part spacing a b p = a p × ((q : Pt) × b q × (Near spacing p q))

-- the rows of a rectangle below row y, and row y of it
abbrev pub rows_below : Rect → ℤ → Rect
rows_below r y = record r { y1 = y }

abbrev pub row_at : Rect → ℤ → Rect
row_at r y = record r { y0 = y; y1 = y +ℤ pos 1 }

-- the columns left of column x, and column x
abbrev pub columns_left : Rect → ℤ → Rect
columns_left r x = record r { x1 = x }

abbrev pub column_at : Rect → ℤ → Rect
column_at r x = record r { x0 = x; x1 = x +ℤ pos 1 }

-- the rectangle of one square
abbrev pub unit_of : Pt → Rect
unit_of p = record { x0 = p.x; y0 = p.y; x1 = p.x +ℤ pos 1; y1 = p.y +ℤ pos 1 }

-- the corners of a rectangle have 32 bits a coordinate: each lies from -2^31 up to but not 2^31
pub record FitsIn32Bits (r : Rect) : Type 0 where
  pub left : FitsSigned w32 r.x0
  pub right : FitsSigned w32 r.x1
  pub low : FitsSigned w32 r.y0
  pub high : FitsSigned w32 r.y1

-- the least square of a set that is near another, if there is one
abbrev pub IsLeastNear : Spacing → Region → Region → Option Pt → Type 0
IsLeastNear spacing a b None = ¬ AreNear spacing a b
IsLeastNear spacing a b (Some p) = IsLeast (near_part spacing a b) p

-- new is the first of old and the squares of a that are near b
pub record IsLowered (spacing : Spacing) (a b : Region) (old new : Pt) : Type 0 where
  pub is : (new ≡ old) ⊎ near_part spacing a b new
  pub before : (new ≡ old) ⊎ Precedes new old
  pub first : (q : Pt) → near_part spacing a b q → (new ≡ q) ⊎ Precedes new q

-- the same, where there may be no old one
abbrev pub IsImproved : Spacing → Region → Region → Option Pt → Option Pt → Type 0
IsImproved spacing a b None new = IsLeastNear spacing a b new
IsImproved spacing a b (Some p) None = ⊥
IsImproved spacing a b (Some p) (Some q) = IsLowered spacing a b p q

-- the squares of the first n rectangles
abbrev pub CoversFirst : ℕ → List Rect → Region
CoversFirst n rs p = (k : ℕ) × (r : Rect) × (k < n) × (k < length rs) × (slice_index_or rs k r ≡ r) × Has r p

-- an owner that is sought
abbrev pub IsSought : Owners → ℕ → Type 0
IsSought All k = Unit {0}
IsSought (But j) k = k ≢ j
IsSought (Only j) k = k ≡ j
IsSought (Above j) k = j < k

-- the squares of the rectangles of the sought owners in a search tree
abbrev pub ItemCovers : Owners → List Item → Region
ItemCovers owners items p = (r : Rect) × (k : ℕ) × HasItem items r k × IsSought owners k × Has r p

-- each rectangle of a search tree has some square
abbrev pub AreSolidItems : List Item → Type 0
AreSolidItems items = (r : Rect) (k : ℕ) → HasItem items r k → IsSolid r
