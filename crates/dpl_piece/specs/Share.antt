-- The pieces of a share of the features, those of some numbers.
use Rattle.std.specs.Prelude.{◌≡◌, ℕ, ◌<◌, List, [], length, slice_index_or}
use Rattle.std.specs.List.{All, AllPairs, Any}
use Rattle.dpl_spec_split.specs.declared.Pt.{Pt}
use Rattle.dpl_spec_split.specs.declared.Rect.{Rect}
use Rattle.dpl_spec_split.specs.declared.Zone.{Zone}
use Rattle.dpl_spec_split.specs.Squares.{Covers, Has, SameSquares}
use Rattle.dpl_spec_split.specs.Slabs.{IsCanonical}
use Rattle.dpl_spec_split.specs.Loops.{farthest, AreRectsWithin}
use Rattle.dpl_spec_split.specs.Components.{component}
use Rattle.dpl_spec_split.specs.Zones.{part_at}
use Rattle.dpl_spec_split.specs.Pieces.{without}
use Rattle.dpl_slabs.specs.Parts.{AreApart, union_of}
use Rattle.dpl_sides.specs.declared.piece.Origin.TheVariants.{Whole, Broken}
use Rattle.dpl_sides.specs.declared.piece.Piece.{Piece}
use Rattle.dpl_sides.specs.Corners.{StandsAfter, StandsBefore}
use Rattle.dpl_sides.specs.Pieces.{zone_at}
use Rattle.dpl_piece.specs.Pieces.{feature_at, HasZone}

-- canonical slabs within the range of a layer, which are one of the components of what the zones leave of all features and lie in one of
-- the share: a whole feature as it is, or broken off one with a zone
pub record IsPieceOf (features : List (List Rect)) (zones : List Zone) (Share : ℕ → Type 0) (x : Piece) : Type 0 where
  pub owner : Share x.owner
  pub inside : (p : Pt) → Covers x.part p → part_at features x.owner p
  pub canonical : IsCanonical x.part
  pub within : AreRectsWithin farthest x.part
  pub whole : let left = without (union_of features) zones in (p : Pt) × left p × SameSquares (Covers x.part) (component left p)
  pub kept : x.origin ≡ Whole → slice_index_or features x.owner [] ≡ x.part
  pub cut : x.origin ≡ Broken → HasZone zones x.owner

-- all that the zones leave of the share, in pieces that have no square in common
pub record ArePiecesOf (features : List (List Rect)) (zones : List Zone) (Share : ℕ → Type 0) (pieces : List Piece) : Type 0 where
  pub each : All (IsPieceOf features zones Share) pieces
  pub all : (k : ℕ) (p : Pt) → Share k → part_at features k p → ¬ Any (λ z. Has z.rect p) zones → Any (λ x. Covers x.part p) pieces
  pub apart : AllPairs (λ x y. AreApart x.part y.part) pieces

-- for each zone of the share parts on its two sides are noted
pub record AreSidesOfShare (zones : List Zone) (Share : ℕ → Type 0) (parts : List (List Rect)) (firsts seconds : List ℕ) : Type 0 where
  pub firsts-each : length firsts ≡ length zones
  pub seconds-each : length seconds ≡ length zones
  pub before : (j : ℕ) → j < length zones → Share (feature_at zones j) → StandsBefore parts (zone_at zones j) (slice_index_or firsts j 0)
  pub after : (j : ℕ) → j < length zones → Share (feature_at zones j) → StandsAfter parts (zone_at zones j) (slice_index_or seconds j 0)
