-- Pieces of features added behind those of others.
use Rattle.std.specs.Prelude.{◌≡◌, ◌+◌, ◌<◌, ◌⊎◌, ℕ, List, [], ◌∷◌, ◌++◌, length, map, slice_index_or}
use Rattle.std.specs.List.{All, AllPairs, Contains}
use Rattle.dpl_spec_split.specs.declared.Rect.{Rect}
use Rattle.dpl_spec_split.specs.declared.Zone.{Zone}
use Rattle.dpl_sides.specs.declared.standing.Side.TheVariants.{Before, After}
use Rattle.dpl_sides.specs.Noted.{AreMoved, AreSidesNoted, StandsAfterFrom, StandsBeforeFrom}
use Rattle.dpl_sides.specs.Pieces.{parts_in, rect_at}
use Rattle.dpl_sides.specs.Sided.{numbers_in, sides_in}
use Rattle.dpl_piece.specs.declared.pile.Pile.{Pile}
use Rattle.dpl_piece.specs.declared.rest.Cutting.{Cutting}
use Rattle.dpl_piece.specs.Pieces.{AddsPieces}
use Rattle.dpl_piece.specs.Share.{ArePiecesOf, AreSidesOfShare}
use Rattle.dpl_piece.specs.Wholes.{whole_of, KeepsWhole}

-- nothing is cut yet, and there is a number on each side of each of so many zones
pub record IsUncut (zones : ℕ) (c : Cutting) : Type 0 where
  pub pieces : c.pieces.items ≡ []
  pub wholes : c.wholes.items ≡ []
  pub made : c.made.items ≡ []
  pub firsts : length c.noted.firsts.items ≡ zones
  pub seconds : length c.noted.seconds.items ≡ zones

-- the pieces of a pile's features were added, and the sides of their zones noted, as many later as there were pieces before
pub record AddsPile (b : Pile) (old new : Cutting) : Type 0 where
  pub pieces : new.pieces.items ≡ old.pieces.items ++ b.pieces.items
  pub wholes : new.wholes.items ≡ old.wholes.items
  pub made : new.made.items ≡ old.made.items ++ b.features.items
  pub firsts : AreMoved (length old.pieces.items) (numbers_in b.zones.items) (sides_in Before b.zones.items) old.noted.firsts.items new.noted.firsts.items
  pub seconds : AreMoved (length old.pieces.items) (numbers_in b.zones.items) (sides_in After b.zones.items) old.noted.seconds.items new.noted.seconds.items

-- features whose numbers rise were added, with the sides of their zones
pub record IsBegun (features : List (List Rect)) (zones : List Zone) (c : Cutting) : Type 0 where
  pub known : All (λ k. k < length features) c.made.items
  pub rise : AllPairs (λ j k. j < k) c.made.items
  pub pieces : ArePiecesOf features zones (Contains c.made.items) c.pieces.items
  pub sides : AreSidesOfShare zones (Contains c.made.items) (parts_in c.pieces.items) c.noted.firsts.items c.noted.seconds.items
  pub wholes : c.wholes.items ≡ []

-- feature number k was added with its own zones, and those of its pieces noted that stand beside them
pub record AddsFeature (feature : List Rect) (zones : List Zone) (own : List ℕ) (k : ℕ) (old new : Cutting) : Type 0 where
  pub pieces : AddsPieces feature (map (rect_at zones) own) k old.pieces.items new.pieces.items
  pub wholes : KeepsWhole feature (map (rect_at zones) own) k old.wholes.items new.wholes.items
  pub made : new.made.items ≡ old.made.items
  pub firsts : AreSidesNoted (StandsBeforeFrom (parts_in new.pieces.items) (length old.pieces.items)) zones own old.noted.firsts.items new.noted.firsts.items
  pub seconds : AreSidesNoted (StandsAfterFrom (parts_in new.pieces.items) (length old.pieces.items)) zones own old.noted.seconds.items new.noted.seconds.items

-- feature number k, whose pieces were there, was kept
pub record KeepsMade (feature : List Rect) (k : ℕ) (old new : Cutting) : Type 0 where
  pub pieces : new.pieces.items ≡ old.pieces.items
  pub wholes : new.wholes.items ≡ old.wholes.items ++ whole_of k feature ∷ []
  pub made : new.made.items ≡ old.made.items
  pub firsts : new.noted.firsts.items ≡ old.noted.firsts.items
  pub seconds : new.noted.seconds.items ≡ old.noted.seconds.items

-- feature k stands at this place
abbrev pub IsMadeAt : List ℕ → ℕ → ℕ → Type 0
IsMadeAt made place k = (place < length made) × (slice_index_or made place 0 ≡ k)

-- the next feature was kept where it stands at this place among those that workers cut, and added where it doesn't
abbrev pub AddsNext : List Rect → List Zone → List ℕ → ℕ → ℕ → ℕ → Cutting → Cutting → Type 0
AddsNext feature zones own k place next old new = (IsMadeAt old.made.items place k × (next ≡ place + 1) × KeepsMade feature k old new)
    ⊎ ((¬ IsMadeAt old.made.items place k) × (next ≡ place) × AddsFeature feature zones own k old new)
