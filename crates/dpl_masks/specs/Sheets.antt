-- Features put on masks.
use Rattle.std.specs.Prelude.{◌≡◌, ◌≢◌, ℕ, ◌<◌, ◌≤◌, ◌⊎◌, ◌↔◌, ◌++◌, Bool, List, length, map, slice_index, slice_index_or}
use Rattle.std.specs.List.{All, AllZip}
use Rattle.dpl_spec_split.specs.declared.Pt.{Pt}
use Rattle.dpl_spec_split.specs.declared.Rect.{Rect}
use Rattle.dpl_spec_split.specs.declared.Zone.{Zone}
use Rattle.dpl_spec_split.specs.Squares.{Covers, Has, IsSolidWithin, Region}
use Rattle.dpl_spec_split.specs.Loops.{AreRectsWithin, farthest}
use Rattle.dpl_spec_split.specs.Colours.{colour_at, on_mask}
use Rattle.dpl_spec_split.specs.Zones.{part_at}
use Rattle.dpl_slabs.specs.Parts.{AreParts}
use Rattle.dpl_slabs.specs.Scattered.{AreScattered}
use Rattle.dpl_piece.specs.declared.matched.Cut.{Cut}
use Rattle.dpl_piece.specs.declared.piece.Whole.{Whole}
use Rattle.dpl_piece.specs.Wholes.{AreOwnSides, LieIn}
use Rattle.dpl_orient.specs.declared.mask.Mask.{Mask}
use Rattle.dpl_orient.specs.Masks.{is_second}
use Rattle.dpl_masks.specs.declared.ink.Ink.{Ink}
use Rattle.dpl_masks.specs.declared.ink.Ink.TheVariants.{One}
use Rattle.dpl_masks.specs.Inks.{AreInks, IsMixed, IsOne, IsUncut, ink_at}
use Rattle.dpl_masks.specs.declared.rest.Patch.{Patch}
use Rattle.dpl_masks.specs.Painting.{ArePatchesWithin, Holds, IsEither}

-- slabs with a letter of their own were put on the mask of a letter, if that is the same
abbrev pub Puts : Bool → Bool → List Rect → List Rect → List Rect → Type 0
Puts own letter slabs old new = ((own ≡ letter) × (new ≡ old ++ slabs)) ⊎ (¬ (own ≡ letter) × (new ≡ old))

-- a piece was put, if no zone cuts its feature
abbrev pub PutsUncut : Ink → Bool → Bool → List Rect → List Rect → List Rect → Type 0
PutsUncut ink own letter slabs old new = (IsUncut ink × Puts own letter slabs old new) ⊎ (¬ IsUncut ink × (new ≡ old))

-- a feature was put, if it lies on one mask
abbrev pub PutsOne : Ink → Bool → List Rect → List Rect → List Rect → Type 0
PutsOne ink letter slabs old new = ((own : Mask) × (ink ≡ One own) × Puts (is_second own) letter slabs old new) ⊎ (¬ IsOne ink × (new ≡ old))

-- the squares of some of the features
abbrev pub in_some : List (List Rect) → (ℕ → Type 0) → Region
in_some features done p = (f : ℕ) × done f × part_at features f p

-- what a mask has of some of the features, as slabs in any order
pub record IsSheet (features : List (List Rect)) (mask : Region) (done : ℕ → Type 0) (out : List Rect) : Type 0 where
  pub scattered : AreScattered out
  pub covers : (p : Pt) → Covers out p ↔ (mask p × in_some features done p)
  pub within : AreRectsWithin farthest out

-- pieces and zones of features, the features that were cut, and on which masks features lie
pub record AreKnown (features parts : List (List Rect)) (owners : List ℕ) (zones : List Zone) (sides : List (ℕ × ℕ)) (wholes : List Whole)
    (colours : List Bool) (inks : List Ink) : Type 0 where
  pub apart : AreParts parts
  pub lie : LieIn features parts owners zones wholes
  pub own : AllZip (AreOwnSides owners) zones sides
  pub known : All (λ side. (side.0 < length parts) × (side.1 < length parts)) sides
  pub inked : AreInks (length features) owners colours wholes inks

-- a feature that lies on both masks, one of the first n pieces, or one of the first m features that were cut
abbrev pub IsDone : List ℕ → List Whole → List Ink → ℕ → ℕ → ℕ → Type 0
IsDone owners wholes inks n m f =
    IsMixed (ink_at inks f)
    ⊎ (((k : ℕ) × (k < n) × (slice_index owners k ≡ f) × IsUncut (ink_at inks f))
    ⊎ ((k : ℕ) × (w : Whole) × (k < m) × (k < length wholes) × (slice_index_or wholes k w ≡ w) × (w.feature ≡ f) × IsOne (ink_at inks f)))

-- coloured pieces, of which all of this is known
pub record AreInked (cut : Cut) (letters : List Mask) (inks : List Ink) : Type 0 where
  pub features : List (List Rect)
  pub facts : AreKnown features cut.parts cut.owners.items cut.zones.items cut.sides.items cut.wholes.items (map is_second letters) inks
  pub each : length letters ≡ length cut.parts
  pub solid : All (λ z. IsSolidWithin farthest z.rect) cut.zones.items

-- the mask of a letter with all that is done
pub record IsSheetTo (parts : List (List Rect)) (owners : List ℕ) (zones : List Zone) (sides : List (ℕ × ℕ)) (wholes : List Whole)
    (colours : List Bool) (inks : List Ink) (letter : Bool) (n m : ℕ) (out : List Rect) : Type 0 where
  pub features : List (List Rect)
  pub facts : AreKnown features parts owners zones sides wholes colours inks
  pub sheet : IsSheet features (on_mask parts zones sides colours letter) (IsDone owners wholes inks n m) out

-- the squares that those of the first n pieces of a feature have that have the letter, where it lies on both masks
abbrev pub rest_pieces : ℕ → List (List Rect) → List ℕ → List Bool → List Ink → Bool → ℕ → Region
rest_pieces n parts owners colours inks letter f p = (k : ℕ) × (k < n) × (k < length parts) × (colour_at colours k ≡ letter)
    × IsMixed (ink_at inks (slice_index owners k)) × (slice_index owners k ≡ f) × part_at parts k p

-- the same of zones with a side of the letter
abbrev pub rest_zones : ℕ → List Zone → List (ℕ × ℕ) → List Bool → List Ink → Bool → ℕ → Region
rest_zones n zones sides colours inks letter f p =
    (k : ℕ) × (z : Zone) × (side : ℕ × ℕ) × (k < n) × (k < length zones) × (slice_index_or zones k z ≡ z)
    × (slice_index_or sides k side ≡ side) × IsEither colours side letter × IsMixed (ink_at inks z.feature) × (z.feature ≡ f) × Has z.rect p

-- patches with what the features on both masks have on one
pub record AreRest (parts : List (List Rect)) (owners : List ℕ) (zones : List Zone) (sides : List (ℕ × ℕ)) (colours : List Bool)
    (inks : List Ink) (letter : Bool) (patches : List Patch) : Type 0 where
  pub covers : (f : ℕ) (p : Pt) → Holds patches f p
      ↔ (rest_zones (length zones) zones sides colours inks letter f p ⊎ rest_pieces (length parts) parts owners colours inks letter f p)
  pub within : ArePatchesWithin patches

-- the patches from one place on up to another are those of the feature of the first
pub record AreOwnPatches (patches : List Patch) (start end : ℕ) : Type 0 where
  pub more : start < end
  pub within : end ≤ length patches
  pub one : (k : ℕ) (d : Patch) → start ≤ k → k < end → (slice_index_or patches k d).feature ≡ (slice_index_or patches start d).feature
  pub next : (d : Patch) → end < length patches → (slice_index_or patches end d).feature ≢ (slice_index_or patches start d).feature

-- a feature on both masks that one of the first n patches is of
abbrev pub IsAmong : List Patch → List Ink → ℕ → ℕ → Type 0
IsAmong patches inks n f =
    IsMixed (ink_at inks f) × (k : ℕ) × (t : Patch) × (k < n) × (k < length patches) × (slice_index_or patches k t ≡ t) × (t.feature ≡ f)

-- the slabs of the first n patches, which are all of their features
pub record AreUnitedTo (cut : Cut) (letters : List Mask) (inks : List Ink) (letter : Bool) (patches : List Patch) (n : ℕ)
    (out : List Rect) : Type 0 where
  pub features : List (List Rect)
  pub facts : AreKnown features cut.parts cut.owners.items cut.zones.items cut.sides.items cut.wholes.items (map is_second letters) inks
  pub apart : (j k : ℕ) (d : Patch) → j < n → n ≤ k → k < length patches → (slice_index_or patches j d).feature ≢ (slice_index_or patches k d).feature
  pub sheet : IsSheet features (on_mask cut.parts cut.zones.items cut.sides.items (map is_second letters) letter) (IsAmong patches inks n) out
