-- Corners of slabs and of zones, and the slabs on the two sides of a zone.
use Rattle.std.specs.Prelude.{◌≡◌, ℕ, ◌<◌, ◌≤◌, ◌⊎◌, ◌↔◌, Bool, true, false, ℤ, List, [], length, slice_index_or}
use Rattle.std.specs.Ordering.{int_cmp, is_lt, ordering_then}
use Rattle.std.specs.declared.cmp.Ordering.{Ordering}
use Rattle.std.specs.List.Sorted.{IsSortedByKey}
use Rattle.std.specs.List.{AllWithin, Contains}
use Rattle.dpl_spec_split.specs.declared.Rect.{Rect}
use Rattle.dpl_spec_split.specs.declared.Zone.{Zone}
use Rattle.dpl_sides.specs.declared.corner.Corner.{Corner}
use Rattle.dpl_sides.specs.declared.corner.Slab.{Slab}
use Rattle.dpl_sides.specs.declared.corner.Kind.{Kind}
use Rattle.dpl_sides.specs.declared.corner.Kind.TheVariants.{LowerLeft, LowerRight, UpperLeft}

abbrev pub corner_at : ℤ → ℤ → ℕ → Corner
corner_at x y k = record { x = x; y = y; number = k }

abbrev pub corner_of : Kind → ℕ → Rect → Corner
corner_of LowerLeft k r = corner_at r.x0 r.y0 k
corner_of LowerRight k r = corner_at r.x1 r.y0 k
corner_of UpperLeft k r = corner_at r.x0 r.y1 k

-- a corner of a slab of a part, the parts going from one number to another
abbrev pub IsCornerWithin : Kind → List (List Rect) → ℕ → ℕ → Corner → Type 0
IsCornerWithin kind parts from to c = (k : ℕ) × (r : Rect) × (from ≤ k) × (k < to) × Contains (slice_index_or parts k []) r × (corner_of kind k r ≡ c)

-- a corner of a slab of some part
abbrev pub IsCornerOf : Kind → List (List Rect) → Corner → Type 0
IsCornerOf kind parts c = (k : ℕ) × (r : Rect) × (k < length parts) × Contains (slice_index_or parts k []) r × (corner_of kind k r ≡ c)

-- a slab of part number k
abbrev pub slab_of : ℕ → Rect → Slab
slab_of k r = record { rect = r; number = k }

abbrev pub slab_corner : Kind → Slab → Corner
slab_corner kind s = corner_of kind s.number s.rect

-- the slabs of the parts from one number on to another
abbrev pub AreSlabsWithin : List (List Rect) → ℕ → ℕ → List Slab → Type 0
AreSlabsWithin parts from to slabs = (s : Slab) → Contains slabs s ↔ ((from ≤ s.number) × (s.number < to) × Contains (slice_index_or parts s.number []) s.rect)

-- by row, and then by column
abbrev pub row_cmp : (ℤ × ℤ) → (ℤ × ℤ) → Ordering
row_cmp p q = ordering_then (int_cmp p.0 q.0) (int_cmp p.1 q.1)

abbrev pub RiseByCorner : List Corner → Type 0
RiseByCorner cs = IsSortedByKey (λ c. (c.y, c.x)) row_cmp cs

-- the corner comes before the point, by row and then by column
abbrev pub is_before : ℤ → ℤ → Corner → Bool
is_before x y c = is_lt (row_cmp (c.y, c.x) (y, x))

-- all corners before one place come before the point, and none from another on
pub record IsBracket (corners : List Corner) (x y : ℤ) (low high : ℕ) : Type 0 where
  pub order : low ≤ high
  pub within : high ≤ length corners
  pub under : AllWithin (λ c. is_before x y c ≡ true) corners 0 low
  pub over : AllWithin (λ c. is_before x y c ≡ false) corners high (length corners)

-- the zone's lower left corner is the lower right or the upper left one of a slab of part number k
abbrev pub StandsBefore : List (List Rect) → Zone → ℕ → Type 0
StandsBefore parts z k = IsCornerOf LowerRight parts (corner_at z.rect.x0 z.rect.y0 k) ⊎ IsCornerOf UpperLeft parts (corner_at z.rect.x0 z.rect.y0 k)

-- the zone's lower right or upper left corner is the lower left one of a slab of part number k
abbrev pub StandsAfter : List (List Rect) → Zone → ℕ → Type 0
StandsAfter parts z k = IsCornerOf LowerLeft parts (corner_at z.rect.x1 z.rect.y0 k) ⊎ IsCornerOf LowerLeft parts (corner_at z.rect.x0 z.rect.y1 k)

-- part number side.0 stands before the zone, and part number side.1 after it
abbrev pub StandBeside : List (List Rect) → Zone → ℕ × ℕ → Type 0
StandBeside parts z side = StandsBefore parts z side.0 × StandsAfter parts z side.1
