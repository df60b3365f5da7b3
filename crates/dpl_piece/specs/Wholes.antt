-- Features that zones cut, as they were before.
use Rattle.std.specs.Prelude.{◌≡◌, ℕ, ◌<◌, ◌⊎◌, List, [], ◌∷◌, ◌++◌, length, slice_index, slice_index_or}
use Rattle.std.specs.List.{All, AllPairs, AllZip, Contains}
use Rattle.dpl_spec_split.specs.declared.Pt.{Pt}
use Rattle.dpl_spec_split.specs.declared.Rect.{Rect}
use Rattle.dpl_spec_split.specs.declared.Zone.{Zone}
use Rattle.dpl_spec_split.specs.Squares.{Has, SameSquares}
use Rattle.dpl_spec_split.specs.Zones.{part_at}
use Rattle.dpl_spec_split.specs.Pieces.{without, IsOwner}
use Rattle.dpl_slabs.specs.Parts.{union_of}
use Rattle.dpl_slabs.specs.Scattered.{AreUntouched}
use Rattle.dpl_piece.specs.declared.piece.Whole.{Whole}
use Rattle.dpl_piece.specs.Pieces.{HasZone}

-- feature number k
abbrev pub whole_of : ℕ → List Rect → Whole
whole_of k set = record { feature = k; set = set }

-- feature k was kept
abbrev pub HasWhole : List Whole → ℕ → Type 0
HasWhole wholes k = (w : Whole) × Contains wholes w × (w.feature ≡ k)

-- feature number k was kept where it has a hole
abbrev pub KeepsWhole : List Rect → List Rect → ℕ → List Whole → List Whole → Type 0
KeepsWhole feature holes k old new = ((length holes ≡ 0) × (new ≡ old)) ⊎ ((0 < length holes) × (new ≡ old ++ whole_of k feature ∷ []))

-- those of the first n features that have a zone, each as it is
pub record AreWholesBelow (features : List (List Rect)) (zones : List Zone) (n : ℕ) (wholes : List Whole) : Type 0 where
  pub kept : All (λ w. (w.feature < n) × (slice_index_or features w.feature [] ≡ w.set)) wholes
  pub rise : AllPairs (λ v w. v.feature < w.feature) wholes
  pub each : (k : ℕ) → k < n → HasZone zones k → HasWhole wholes k

abbrev pub AreWholes : List (List Rect) → List Zone → List Whole → Type 0
AreWholes features zones wholes = AreWholesBelow features zones (length features) wholes

-- a zone has squares of its feature alone
abbrev pub IsZoneIn : List (List Rect) → Zone → Type 0
IsZoneIn features z = (z.feature < length features) × ((p : Pt) → Has z.rect p → part_at features z.feature p)

-- pieces and zones that have all squares of features that don't touch one another, and those of the features that were cut
pub record LieIn (features : List (List Rect)) (parts : List (List Rect)) (owners : List ℕ) (zones : List Zone) (wholes : List Whole) : Type 0 where
  pub untouched : AllPairs AreUntouched features
  pub left : SameSquares (union_of parts) (without (union_of features) zones)
  pub owned : AllZip (IsOwner features) parts owners
  pub zoned : All (IsZoneIn features) zones
  pub cut : All (λ w. (w.feature < length features) × (slice_index_or features w.feature [] ≡ w.set)) wholes
  pub rise : AllPairs (λ v w. v.feature < w.feature) wholes
  pub kept : (i : ℕ) → i < length parts → ¬ HasWhole wholes (slice_index owners i) → slice_index_or features (slice_index owners i) [] ≡ slice_index_or parts i []

-- the same of so many features
pub record LieInSome (count : ℕ) (parts : List (List Rect)) (owners : List ℕ) (zones : List Zone) (wholes : List Whole) : Type 0 where
  pub features : List (List Rect)
  pub each : length features ≡ count
  pub lie : LieIn features parts owners zones wholes

-- the pieces on both sides of a zone are of its feature
abbrev pub AreOwnSides : List ℕ → Zone → ℕ × ℕ → Type 0
AreOwnSides owners z side = (slice_index owners side.0 ≡ z.feature) × (slice_index owners side.1 ≡ z.feature)
