-- Pieces noted for the zones that they stand beside, and their numbers once they are sorted.
use Rattle.std.specs.Prelude.{◌≡◌, ℕ, ◌+◌, ◌<◌, ◌⊎◌, List, [], length, slice_index_or}
use Rattle.std.specs.List.{Contains}
use Rattle.std.specs.List.Sorted.{IsPermutation}
use Rattle.dpl_spec_split.specs.declared.Rect.{Rect}
use Rattle.dpl_spec_split.specs.declared.Zone.{Zone}
use Rattle.dpl_sides.specs.declared.corner.Corner.{Corner}
use Rattle.dpl_sides.specs.declared.corner.Kind.{Kind}
use Rattle.dpl_sides.specs.declared.corner.Kind.TheVariants.{LowerLeft, LowerRight, UpperLeft}
use Rattle.dpl_sides.specs.declared.piece.Piece.{Piece}
use Rattle.dpl_sides.specs.Corners.{corner_at, corner_of, IsCornerWithin}
use Rattle.dpl_sides.specs.Pieces.{rect_at, zone_at, whole_piece, RiseByLeast}

-- the corner of the zone of a number
abbrev pub zone_corner : Kind → List Zone → ℕ → Corner
zone_corner kind zones j = corner_of kind j (rect_at zones j)

-- a corner of one of the zones of these numbers
abbrev pub IsZoneCorner : Kind → List Zone → List ℕ → Corner → Type 0
IsZoneCorner kind zones own c = Contains own c.number × (zone_corner kind zones c.number ≡ c)

-- the number noted for zone number i is now that of one of the slabs' corners at which the zone has a corner, or stays where there is none
abbrev pub IsNoted : List Corner → List Corner → ℕ → ℕ → ℕ → Type 0
IsNoted found corners i old new = ((c : Corner) × Contains found c × Contains corners (corner_at c.x c.y i) × (c.number ≡ new))
    ⊎ (((c : Corner) → Contains found c → ¬ Contains corners (corner_at c.x c.y i)) × (new ≡ old))

-- the same of each zone
pub record AreNoted (found corners : List Corner) (old new : List ℕ) : Type 0 where
  pub each : length new ≡ length old
  pub noted : (i n : ℕ) → i < length old → IsNoted found corners i (slice_index_or old i n) (slice_index_or new i n)

-- the zone's lower left corner is the lower right or the upper left one of a slab of part number k, which is one from a number on
abbrev pub StandsBeforeFrom : List (List Rect) → ℕ → Zone → ℕ → Type 0
StandsBeforeFrom parts from z k = IsCornerWithin LowerRight parts from (length parts) (corner_at z.rect.x0 z.rect.y0 k)
    ⊎ IsCornerWithin UpperLeft parts from (length parts) (corner_at z.rect.x0 z.rect.y0 k)

-- the zone's lower right or upper left corner is the lower left one of a slab of part number k, which is one from a number on
abbrev pub StandsAfterFrom : List (List Rect) → ℕ → Zone → ℕ → Type 0
StandsAfterFrom parts from z k = IsCornerWithin LowerLeft parts from (length parts) (corner_at z.rect.x1 z.rect.y0 k)
    ⊎ IsCornerWithin LowerLeft parts from (length parts) (corner_at z.rect.x0 z.rect.y1 k)

-- for each zone of these numbers a part that stands beside it was noted, where there is one, and no other number has changed
pub record AreSidesNoted (Stands : Zone → ℕ → Type 0) (zones : List Zone) (own old new : List ℕ) : Type 0 where
  pub each : length new ≡ length old
  pub noted : (j : ℕ) → Contains own j → (k : ℕ) → Stands (zone_at zones j) k → Stands (zone_at zones j) (slice_index_or new j 0)
  pub kept : (j : ℕ) → ¬ Contains own j → slice_index_or new j 0 ≡ slice_index_or old j 0

-- for each zone of these numbers a part that stands beside it was noted, where there is one, in a new list with a number for each zone
pub record AreNotedAnew (Stands : Zone → ℕ → Type 0) (zones : List Zone) (own new : List ℕ) : Type 0 where
  pub old : List ℕ
  pub each : length old ≡ length zones
  pub are : AreSidesNoted Stands zones own old new

-- for each of these zones the number of a part that stands beside it, where there is one
pub record AreSidesOf (Stands : Zone → ℕ → Type 0) (zones : List Zone) (own sides : List ℕ) : Type 0 where
  pub each : length sides ≡ length own
  pub stand : (i : ℕ) → i < length own → (k : ℕ) → Stands (zone_at zones (slice_index_or own i 0)) k → Stands (zone_at zones (slice_index_or own i 0)) (slice_index_or sides i 0)

-- the number noted for zone number j is now one that was given for it, so many later, or stays where none was given
abbrev pub IsMoved : ℕ → List ℕ → List ℕ → List ℕ → List ℕ → ℕ → Type 0
IsMoved from own given old new j = ((i : ℕ) × (i < length own) × (slice_index_or own i 0 ≡ j) × (slice_index_or new j 0 ≡ from + slice_index_or given i 0))
    ⊎ ((¬ Contains own j) × (slice_index_or new j 0 ≡ slice_index_or old j 0))

-- the same of each zone
pub record AreMoved (from : ℕ) (own given old new : List ℕ) : Type 0 where
  pub each : length new ≡ length old
  pub moved : (j : ℕ) → IsMoved from own given old new j

-- piece number i in a list, and a piece without squares past the end
abbrev pub piece_at : List Piece → ℕ → Piece
piece_at pieces i = slice_index_or pieces i (whole_piece 0 [])

-- the number of piece number i
abbrev pub number_at : List Piece → ℕ → ℕ
number_at pieces i = (piece_at pieces i).number

-- the same pieces, each with its place for its number
pub record AreNumbered (old new : List Piece) : Type 0 where
  pub each : length new ≡ length old
  pub same : (i : ℕ) → i < length old → piece_at new i ≡ record { part = (piece_at old i).part; owner = (piece_at old i).owner; origin = (piece_at old i).origin; number = i }

-- for the number of each of the first n pieces the place of a piece with this number
pub record AreRanksBelow (pieces : List Piece) (n : ℕ) (ranks : List ℕ) : Type 0 where
  pub each : length ranks ≡ length pieces
  pub ranked : (i : ℕ) → i < n → let k = slice_index_or ranks (number_at pieces i) 0 in (k < length pieces) × (number_at pieces k ≡ number_at pieces i)

-- the ranks of the pieces of these numbers, in pairs
pub record AreRanked (ranks firsts seconds : List ℕ) (sides : List (ℕ × ℕ)) : Type 0 where
  pub each : length sides ≡ length firsts
  pub ranked : (i : ℕ) → i < length firsts → slice_index_or sides i (0, 0) ≡ (slice_index_or ranks (slice_index_or firsts i 0) 0, slice_index_or ranks (slice_index_or seconds i 0) 0)

-- a piece of one list is at a place of another
abbrev pub IsPlaced : List Piece → List Piece → ℕ → ℕ → Type 0
IsPlaced old new a b = (b < length new) × ((piece_at new b).part ≡ (piece_at old a).part)

-- the same pieces by their least squares, each with its former place for its number, and the new places of those that were noted, in pairs
pub record IsSortedWith (old new : List Piece) (firsts seconds : List ℕ) (sides : List (ℕ × ℕ)) : Type 0 where
  pub numbered : List Piece
  pub are : AreNumbered old numbered
  pub same : IsPermutation numbered new
  pub rise : RiseByLeast new
  pub each : length sides ≡ length firsts
  pub placed : (j : ℕ) → j < length firsts → let side = slice_index_or sides j (0, 0) in IsPlaced old new (slice_index_or firsts j 0) side.0 × IsPlaced old new (slice_index_or seconds j 0) side.1
