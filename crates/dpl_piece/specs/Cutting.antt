-- The pieces of a layer as one value.
use Rattle.std.specs.Prelude.{◌≡◌, ◌≢◌, ℕ, ◌<◌, ◌≤◌, pos, List, [], ◌∷◌, length, map}
use Rattle.std.specs.List.{All, AllZip}
use Rattle.dpl_spec_split.specs.declared.Spacing.{Spacing}
use Rattle.dpl_spec_split.specs.declared.Pt.{Pt}
use Rattle.dpl_spec_split.specs.declared.Rect.{Rect}
use Rattle.dpl_spec_split.specs.declared.Zone.{Zone}
use Rattle.dpl_spec_split.specs.Squares.{Covers, IsSolidWithin}
use Rattle.dpl_spec_split.specs.Loops.{farthest}
use Rattle.dpl_spec_split.specs.Components.{AreComponents}
use Rattle.dpl_spec_split.specs.Zones.{AreSomeZones, at}
use Rattle.dpl_spec_split.specs.Pieces.{ArePieces}
use Rattle.dpl_slabs.specs.Parts.{AreParts, union_of}
use Rattle.dpl_sides.specs.Corners.{StandBeside}

-- pieces with the features that they lie in and their keys, and zones with their sides
pub record CutPieces : Type 0 where
  pub parts : List (List Rect)
  pub owners : List ℕ
  pub keys : List Pt
  pub zones : List Zone
  pub sides : List (ℕ × ℕ)

abbrev pub cut_pieces : List (List Rect) → List ℕ → List Pt → List Zone → List (ℕ × ℕ) → CutPieces
cut_pieces parts owners keys zones sides = record { parts = parts; owners = owners; keys = keys; zones = zones; sides = sides }

-- the lower left square of the first of some slabs
abbrev pub first_square : List Rect → Pt
first_square [] = at (pos 0) (pos 0)
first_square (r ∷ rs) = at r.x0 r.y0

-- the key of each piece
abbrev pub keys_in : List (List Rect) → List Pt
keys_in parts = map first_square parts

-- one owner and one key for each piece, two pieces for each zone, and zones within the range of a layer
pub record AreMatched (c : CutPieces) : Type 0 where
  pub parts : AreParts c.parts
  pub owners : length c.owners ≡ length c.parts
  pub keys : c.keys ≡ keys_in c.parts
  pub sides : length c.sides ≡ length c.zones
  pub known : All (λ side. (side.0 < length c.parts) × (side.1 < length c.parts)) c.sides
  pub zones : All (λ z. IsSolidWithin farthest z.rect) c.zones

-- the touching components of some layer
abbrev pub AreFeatures : List (List Rect) → Type 0
AreFeatures features = (layer : List Rect) × AreComponents (Covers layer) features

-- zones of the features, for some spacing and overlap, whatever others there are
abbrev pub AreTheirZones : List (List Rect) → List Zone → Type 0
AreTheirZones features zones = (spacing : Spacing) × (overlap : ℕ) × (1 ≤ overlap) × AreSomeZones spacing overlap (union_of features) features zones

-- the pieces that the zones leave of each layer whose features these are
abbrev pub AreTheirPieces : List (List Rect) → List Zone → CutPieces → Type 0
AreTheirPieces features zones c = (layer : List Rect) → AreComponents (Covers layer) features → ArePieces (Covers layer) features zones c.parts c.owners c.keys c.sides

-- pieces with the features that they lie in, and zones, before it is known which pieces stand beside which zone
pub record BareCut : Type 0 where
  pub parts : List (List Rect)
  pub owners : List ℕ
  pub zones : List Zone

abbrev pub bare_cut : List (List Rect) → List ℕ → List Zone → BareCut
bare_cut parts owners zones = record { parts = parts; owners = owners; zones = zones }

-- one owner for each piece, which has squares, and pieces on both sides of each zone, which lies within the range of a layer
pub record AreBare (b : BareCut) (beside : List (ℕ × ℕ)) : Type 0 where
  pub parts : AreParts b.parts
  pub some : All (λ part. part ≢ []) b.parts
  pub owners : length b.owners ≡ length b.parts
  pub sides : AllZip (StandBeside b.parts) b.zones beside
  pub zones : All (λ z. IsSolidWithin farthest z.rect) b.zones

-- the pieces and the zones, with the pieces' keys and with the pieces on the two sides of each zone
pub record Completes (b : BareCut) (c : CutPieces) : Type 0 where
  pub parts : c.parts ≡ b.parts
  pub owners : c.owners ≡ b.owners
  pub keys : c.keys ≡ keys_in c.parts
  pub zones : c.zones ≡ b.zones
  pub sides : AllZip (StandBeside c.parts) c.zones c.sides

-- what they are, once completed, are the pieces that the zones leave
abbrev pub AreBarePieces : List (List Rect) → List Zone → BareCut → Type 0
AreBarePieces features zones b = (c : CutPieces) → Completes b c → AreTheirPieces features zones c
