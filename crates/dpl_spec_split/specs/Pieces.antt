-- Pieces: what the zones leave of the features, and the pieces on the two sides of a zone.
use Rattle.std.specs.Prelude.{◌≢◌, ℕ, ◌<◌, ◌⊎◌, ◌≤ℤ◌, ◌<ℤ◌, List, length, slice_index}
use Rattle.std.specs.List.{Any, AllZip}
use Rattle.dpl_spec_split.specs.declared.Spacing.{Spacing}
use Rattle.dpl_spec_split.specs.declared.Pt.{Pt}
use Rattle.dpl_spec_split.specs.declared.Rect.{Rect}
use Rattle.dpl_spec_split.specs.declared.Zone.{Zone}
use Rattle.dpl_spec_split.specs.Squares.{Region, AreNear, Covers, Has, IsLeast, Touch}
use Rattle.dpl_spec_split.specs.Components.{AreComponents}
use Rattle.dpl_spec_split.specs.Zones.{part_at}

-- what the zones leave of the layer
abbrev pub without : Region → List Zone → Region
without layer zones p = layer p × ¬ Any (λ z. Has z.rect p) zones

-- the piece has a square that touches the zone from the left or from below
abbrev pub IsFirstSide : Region → Rect → Type 0
IsFirstSide piece z = (p q : Pt) × piece p × Has z q × Touch p q × ((p.x <ℤ z.x0) ⊎ (p.y <ℤ z.y0))

-- the piece has a square that touches the zone from the right or from above
abbrev pub IsSecondSide : Region → Rect → Type 0
IsSecondSide piece z = (p q : Pt) × piece p × Has z q × Touch p q × ((z.x1 ≤ℤ p.x) ⊎ (z.y1 ≤ℤ p.y))

-- pieces i and j stand on the two sides of the zone
pub record AreSides (features pieces : List (List Rect)) (z : Zone) (side : ℕ × ℕ) : Type 0 where
  pub known : (side.0 < length pieces) × (side.1 < length pieces)
  pub first : IsFirstSide (part_at pieces side.0) z.rect
  pub second : IsSecondSide (part_at pieces side.1) z.rect

-- piece i lies in feature k
abbrev pub IsOwner : List (List Rect) → List Rect → ℕ → Type 0
IsOwner features piece k = (k < length features) × ((p : Pt) → Covers piece p → part_at features k p)

pub record ArePieces (layer : Region) (features : List (List Rect)) (zones : List Zone) (pieces : List (List Rect)) (owners : List ℕ)
    (keys : List Pt) (sides : List (ℕ × ℕ)) : Type 0 where
  pub components : AreComponents (without layer zones) pieces
  pub owned : AllZip (IsOwner features) pieces owners
  pub keyed : AllZip (λ piece key. IsLeast (Covers piece) key) pieces keys
  pub sided : AllZip (AreSides features pieces) zones sides

-- pieces of different features that are near conflict
pub record Conflict (spacing : Spacing) (pieces : List (List Rect)) (owners : List ℕ) (i j : ℕ) : Type 0 where
  pub first : i < length pieces
  pub second : j < length pieces
  pub apart : slice_index owners i ≢ slice_index owners j
  pub near : AreNear spacing (part_at pieces i) (part_at pieces j)
