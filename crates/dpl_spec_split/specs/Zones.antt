-- Stitch zones: the middle of each straight stretch of a feature that no other feature comes near.
use Rattle.std.specs.Prelude.{◌≡◌, ℕ, ◌+◌, ◌*◌, ◌<◌, ◌≤◌, ◌⊎◌, ◌↔◌, ℤ, pos, ◌+ℤ◌, ◌-ℤ◌, ◌≤ℤ◌, ◌<ℤ◌, List, [], length, slice_index_or}
use Rattle.std.specs.List.{AllPairs, Contains}
use Rattle.dpl_spec_split.specs.declared.Spacing.{Spacing}
use Rattle.dpl_spec_split.specs.declared.Pt.{Pt}
use Rattle.dpl_spec_split.specs.declared.Rect.{Rect}
use Rattle.dpl_spec_split.specs.declared.Zone.{Zone}
use Rattle.dpl_spec_split.specs.Squares.{Region, AreTouching, Covers, Has, Near}
use Rattle.dpl_spec_split.specs.Slabs.{Before}

abbrev pub at : ℤ → ℤ → Pt
at x y = record { x = x; y = y }

-- near no square of another feature
abbrev pub IsClear : Spacing → Region → Region → Pt → Type 0
IsClear spacing layer feature p = (q : Pt) → layer q → ¬ feature q → ¬ Near spacing p q

-- rows y0 to y1 - 1 of column x are a maximal vertical run of the feature, and clear
pub record IsClearRun (spacing : Spacing) (layer feature : Region) (y0 y1 x : ℤ) : Type 0 where
  pub some : y0 <ℤ y1
  pub inside : (y : ℤ) → y0 ≤ℤ y → y <ℤ y1 → feature (at x y)
  pub clear : (y : ℤ) → y0 ≤ℤ y → y <ℤ y1 → IsClear spacing layer feature (at x y)
  pub below : ¬ feature (at x (y0 -ℤ pos 1))
  pub above : ¬ feature (at x y1)

-- the feature has in column x a square of some row from y0 - 1 to y1
abbrev pub GoesOn : Region → ℤ → ℤ → ℤ → Type 0
GoesOn feature y0 y1 x = (y : ℤ) × ((y0 -ℤ pos 1) ≤ℤ y) × (y ≤ℤ y1) × feature (at x y)

-- a straight part of a feature, along x, clear, that goes on beyond both ends
pub record IsStretch (spacing : Spacing) (overlap : ℕ) (layer feature : Region) (r : Rect) : Type 0 where
  pub runs : (x : ℤ) → r.x0 ≤ℤ x → x <ℤ r.x1 → IsClearRun spacing layer feature r.y0 r.y1 x
  pub maximal_left : ¬ IsClearRun spacing layer feature r.y0 r.y1 (r.x0 -ℤ pos 1)
  pub maximal_right : ¬ IsClearRun spacing layer feature r.y0 r.y1 r.x1
  pub long : (r.x0 +ℤ pos (overlap + 2)) ≤ℤ r.x1
  pub from : GoesOn feature r.y0 r.y1 (r.x0 -ℤ pos 1)
  pub to : GoesOn feature r.y0 r.y1 r.x1

-- the middle columns of a stretch, overlap wide; an odd column is left over on the right
pub record IsMiddle (overlap : ℕ) (stretch zone : Rect) : Type 0 where
  pub rows : (zone.y0 ≡ stretch.y0) × (zone.y1 ≡ stretch.y1)
  pub width : zone.x1 ≡ zone.x0 +ℤ pos overlap
  pub middle : let before = zone.x0 -ℤ stretch.x0 in let after = stretch.x1 -ℤ zone.x1 in (after ≡ before) ⊎ (after ≡ before +ℤ pos 1)

-- a zone of a stretch along x: it cuts a wire that runs left to right
pub record IsHorizontalZone (spacing : Spacing) (overlap : ℕ) (layer feature : Region) (zone : Rect) : Type 0 where
  pub stretch : Rect
  pub is : IsStretch spacing overlap layer feature stretch
  pub middle : IsMiddle overlap stretch zone

-- transposed: x and y are exchanged
abbrev pub transposed : Region → Region
transposed a p = a (at p.y p.x)

abbrev pub transposed_rect : Rect → Rect
transposed_rect r = record { x0 = r.y0; y0 = r.x0; x1 = r.y1; y1 = r.x1 }

-- the same, x and y exchanged
abbrev pub IsVerticalZone : Spacing → ℕ → Region → Region → Rect → Type 0
IsVerticalZone spacing overlap layer feature zone =
    IsHorizontalZone spacing overlap (transposed layer) (transposed feature) (transposed_rect zone)

-- a vertical zone that touches a horizontal one of its feature is dropped
abbrev pub IsKeptZone : Spacing → ℕ → Region → Region → Rect → Type 0
IsKeptZone spacing overlap layer feature zone =
    IsHorizontalZone spacing overlap layer feature zone
    ⊎ (IsVerticalZone spacing overlap layer feature zone
    × ((h : Rect) → IsHorizontalZone spacing overlap layer feature h → ¬ AreTouching (Has h) (Has zone)))

-- the squares of part k
abbrev pub part_at : List (List Rect) → ℕ → Region
part_at parts k = Covers (slice_index_or parts k [])

-- a zone that is kept of its feature
abbrev pub IsZoneOf : Spacing → ℕ → Region → List (List Rect) → Zone → Type 0
IsZoneOf spacing overlap layer features z = (z.feature < length features) × IsKeptZone spacing overlap layer (part_at features z.feature) z.rect

-- no square of the zone is marked
abbrev pub IsUnmarked : Region → Rect → Type 0
IsUnmarked marked zone = (p : Pt) → Has zone p → ¬ marked p

-- The zones of all features of a layer, but those with a marked square. They are dropped last: a vertical zone that touches a horizontal one is dropped where that one is marked too.
pub record AreZones (spacing : Spacing) (overlap : ℕ) (layer : Region) (features : List (List Rect)) (marked : Region) (zones : List Zone) : Type 0 where
  pub ordered : AllPairs (λ a b. Before a.rect b.rect) zones
  pub exactly : (z : Zone) → Contains zones z ↔ (IsZoneOf spacing overlap layer features z × IsUnmarked marked z.rect)

-- some zones of the features of a layer, in order, whatever others there are
pub record AreSomeZones (spacing : Spacing) (overlap : ℕ) (layer : Region) (features : List (List Rect)) (zones : List Zone) : Type 0 where
  pub ordered : AllPairs (λ a b. Before a.rect b.rect) zones
  pub kept : (z : Zone) → Contains zones z → IsZoneOf spacing overlap layer features z
