-- Pieces that zones leave of features, each with the feature that it lies in.
use Rattle.std.specs.Prelude.{◌≡◌, ℕ, ◌<◌, ◌≤◌, ◌⊎◌, ◌↔◌, List, [], ◌∷◌, ◌++◌, length, map, slice_index_or}
use Rattle.std.specs.List.{All, Contains}
use Rattle.std.specs.List.Sorted.{IsNonDecreasingBy}
use Rattle.dpl_spec_split.specs.declared.Rect.{Rect}
use Rattle.dpl_spec_split.specs.declared.Zone.{Zone}
use Rattle.dpl_spec_split.specs.Squares.{Region, Covers}
use Rattle.dpl_spec_split.specs.Components.{AreComponents}
use Rattle.dpl_spec_split.specs.Pieces.{without, IsOwner}
use Rattle.dpl_slabs.specs.Parts.{AreParts, union_of}
use Rattle.dpl_sides.specs.declared.piece.Origin.TheVariants.{Whole, Broken}
use Rattle.dpl_sides.specs.declared.piece.Piece.{Piece}
use Rattle.dpl_sides.specs.Pieces.{parts_in, whole_piece, zone_at}

abbrev pub owners_in : List Piece → List ℕ
owners_in pieces = map (λ x. x.owner) pieces

abbrev pub feature_at : List Zone → ℕ → ℕ
feature_at zones j = (zone_at zones j).feature

-- the numbers of the zones of the features from number n on, by feature
pub record AreZonesFrom (zones : List Zone) (n : ℕ) (rest : List ℕ) : Type 0 where
  pub rise : IsNonDecreasingBy (feature_at zones) rest
  pub members : (j : ℕ) → Contains rest j ↔ ((j < length zones) × (n ≤ feature_at zones j))

-- the numbers of feature n's zones, and no other
abbrev pub AreZonesOf : List Zone → ℕ → List ℕ → Type 0
AreZonesOf zones n own = (j : ℕ) → Contains own j ↔ ((j < length zones) × (feature_at zones j ≡ n))

-- the rectangles of feature n's zones
abbrev pub AreHolesOf : List Zone → ℕ → List Rect → Type 0
AreHolesOf zones n holes = (r : Rect) → Contains holes r ↔ ((z : Zone) × Contains zones z × (z.feature ≡ n) × (z.rect ≡ r))

-- a piece that zones broke off feature number k
abbrev pub broken_piece : ℕ → List Rect → Piece
broken_piece k part = record { part = part; owner = k; origin = Broken; number = 0 }

-- squares of the feature that no hole has
abbrev pub left_of : List Rect → List Rect → Region
left_of feature holes p = Covers feature p × ¬ Covers holes p

-- the components of what holes leave of a feature
pub record AreBroken (feature holes : List Rect) (parts : List (List Rect)) : Type 0 where
  pub components : AreComponents (left_of feature holes) parts
  pub apart : AreParts parts

-- the components of what holes leave of feature number k were added
pub record AddsBroken (feature holes : List Rect) (k : ℕ) (old new : List Piece) : Type 0 where
  pub parts : List (List Rect)
  pub broken : AreBroken feature holes parts
  pub added : new ≡ old ++ map (broken_piece k) parts

-- feature number k was added, as it is where there is no hole, or else broken by its holes
abbrev pub AddsPieces : List Rect → List Rect → ℕ → List Piece → List Piece → Type 0
AddsPieces feature holes k old new = ((length holes ≡ 0) × (new ≡ old ++ whole_piece k feature ∷ [])) ⊎ ((0 < length holes) × AddsBroken feature holes k old new)

-- some zone is of feature k
abbrev pub HasZone : List Zone → ℕ → Type 0
HasZone zones k = (z : Zone) × Contains zones z × (z.feature ≡ k)

-- the components of what the zones leave of the features, each in its feature: a whole one is its feature as it is, and a broken one is of a feature with a zone
pub record AreCut (features : List (List Rect)) (zones : List Zone) (pieces : List Piece) : Type 0 where
  pub components : AreComponents (without (union_of features) zones) (parts_in pieces)
  pub apart : AreParts (parts_in pieces)
  pub owned : All (λ x. IsOwner features x.part x.owner) pieces
  pub kept : All (λ x. x.origin ≡ Whole → slice_index_or features x.owner [] ≡ x.part) pieces
  pub cut : All (λ x. x.origin ≡ Broken → HasZone zones x.owner) pieces
