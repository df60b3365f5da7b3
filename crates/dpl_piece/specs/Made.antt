-- Pieces of features that are made before the features' turn.
use Rattle.std.specs.Prelude.{◌≡◌, ◌≢◌, ◌+◌, ◌-◌, ◌<◌, ◌≤◌, ◌↔◌, ◌⊎◌, ℕ, Option, Some, None, Vec, List, [], ◌∷◌, ◌++◌, length, map, slice_index_or}
use Rattle.std.specs.Global.{Global}
use Rattle.std.specs.List.{All, AllPairs, Contains}
use Rattle.dpl_spec_split.specs.declared.Rect.{Rect}
use Rattle.dpl_spec_split.specs.declared.Zone.{Zone}
use Rattle.dpl_sides.specs.declared.sided.Sided.{Sided}
use Rattle.dpl_sides.specs.declared.standing.Side.TheVariants.{Before, After}
use Rattle.dpl_sides.specs.Corners.{StandsAfter, StandsBefore}
use Rattle.dpl_sides.specs.Noted.{AreSidesOf, StandsAfterFrom, StandsBeforeFrom}
use Rattle.dpl_sides.specs.Pieces.{parts_in, rect_at, zone_at}
use Rattle.dpl_sides.specs.Sided.{numbers_in, sides_in}
use Rattle.dpl_piece.specs.declared.pile.Pile.{Pile}
use Rattle.dpl_piece.specs.declared.made.Made.{Made}
use Rattle.dpl_piece.specs.Pieces.{broken_piece, feature_at, AreBroken, AreHolesOf}
use Rattle.dpl_piece.specs.Share.{ArePiecesOf}

-- the pieces are those into which the listed zones break the feature, and for each of these zones some that stand on its two sides are listed
pub record AreMadeOf (feature : List Rect) (zones : List Zone) (m : Made) : Type 0 where
  pub parts : List (List Rect)
  pub broken : AreBroken feature (map (rect_at zones) (numbers_in m.zones.items)) parts
  pub pieces : m.pieces.items ≡ map (broken_piece m.feature) parts
  pub firsts : AreSidesOf (StandsBeforeFrom parts 0) zones (numbers_in m.zones.items) (sides_in Before m.zones.items)
  pub seconds : AreSidesOf (StandsAfterFrom parts 0) zones (numbers_in m.zones.items) (sides_in After m.zones.items)

-- the same of the feature's own zones, of which there are some
pub record IsMade (features : List (List Rect)) (zones : List Zone) (m : Made) : Type 0 where
  pub some : 0 < length (numbers_in m.zones.items)
  pub own : (j : ℕ) → Contains (numbers_in m.zones.items) j ↔ ((j < length zones) × (feature_at zones j ≡ m.feature))
  pub holes : AreHolesOf zones m.feature (map (rect_at zones) (numbers_in m.zones.items))
  pub are : AreMadeOf (slice_index_or features m.feature []) zones m

-- pieces number s.first and s.second of these parts stand on the two sides of zone number s.zone
abbrev pub IsSided : List (List Rect) → List Zone → Sided → Type 0
IsSided parts zones s = StandsBefore parts (zone_at zones s.zone) s.first × StandsAfter parts (zone_at zones s.zone) s.second

-- the same zone where so many pieces come first
abbrev pub moved_by : ℕ → Sided → Sided
moved_by n s = record { zone = s.zone; first = n + s.first; second = n + s.second }

pub record IsEmptyPile (b : Pile) : Type 0 where
  pub features : b.features.items ≡ []
  pub pieces : b.pieces.items ≡ []
  pub zones : b.zones.items ≡ []

-- what was made of a feature was added behind the rest
pub record AddsMade (m : Made) (old new : Pile) : Type 0 where
  pub features : new.features.items ≡ old.features.items ++ m.feature ∷ []
  pub pieces : new.pieces.items ≡ old.pieces.items ++ m.pieces.items
  pub zones : new.zones.items ≡ old.zones.items ++ map (moved_by (length old.pieces.items)) m.zones.items

-- the pieces of features whose numbers rise, and their zones with pieces on the two sides of each
pub record AreMade (features : List (List Rect)) (zones : List Zone) (b : Pile) : Type 0 where
  pub known : All (λ k. k < length features) b.features.items
  pub rise : AllPairs (λ j k. j < k) b.features.items
  pub pieces : ArePiecesOf features zones (Contains b.features.items) b.pieces.items
  pub own : (j : ℕ) → Contains (numbers_in b.zones.items) j ↔ ((j < length zones) × Contains b.features.items (feature_at zones j))
  pub sided : All (IsSided (parts_in b.pieces.items) zones) b.zones.items

-- each of some numbers is below each of others
abbrev pub AreBelow : List ℕ → List ℕ → Type 0
AreBelow js ks = (j k : ℕ) → Contains js j → Contains ks k → j < k

-- piles of features whose numbers rise from the first pile to the last
pub record AreAllMade (features : List (List Rect)) (zones : List Zone) (piles : List Pile) : Type 0 where
  pub each : All (AreMade features zones) piles
  pub rise : AllPairs (λ a b. AreBelow a.features.items b.features.items) piles

-- the zones of a feature begin at this place of numbers that are sorted by feature
abbrev pub BeginsAt : List Zone → List ℕ → ℕ → Type 0
BeginsAt zones sorted place = (place ≡ 0) ⊎ (feature_at zones (slice_index_or sorted (place - 1) 0) ≢ feature_at zones (slice_index_or sorted place 0))

-- one place is before another, and feature k comes behind that of the place right before the first, if there is one, but not behind that of the place right before the second
pub record IsOfPlaces (zones : List Zone) (sorted : List ℕ) (from to k : ℕ) : Type 0 where
  pub some : from < to
  pub behind : (from ≡ 0) ⊎ (feature_at zones (slice_index_or sorted (from - 1) 0) < k)
  pub upto : k ≤ feature_at zones (slice_index_or sorted (to - 1) 0)

-- no part was made where there is no hole, or else those into which the holes break the feature
abbrev pub AreLeft : List Rect → List Rect → Option (Vec (List Rect) Global) → Type 0
AreLeft feature holes None = length holes ≡ 0
AreLeft feature holes (Some parts) = (0 < length holes) × AreBroken feature holes parts.items
