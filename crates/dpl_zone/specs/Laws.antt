-- What follows for the zones of a layer.
use Rattle.std.specs.Prelude.{◌≡◌, ℕ, ◌<◌, ◌≤◌, ◌⊎◌, ◌↔◌, ◌≤ℤ◌, ◌<ℤ◌, List, length}
use Rattle.std.specs.List.{Contains}
use Rattle.dpl_spec_split.specs.declared.Spacing.{Spacing}
use Rattle.dpl_spec_split.specs.declared.Pt.{Pt}
use Rattle.dpl_spec_split.specs.declared.Rect.{Rect}
use Rattle.dpl_spec_split.specs.declared.Zone.{Zone}
use Rattle.dpl_spec_split.specs.Squares.{SameSquares, AreNear, AreTouching, Covers, Has, Touch, d2}
use Rattle.dpl_spec_split.specs.Components.{AreComponents}
use Rattle.dpl_spec_split.specs.Zones.{at, transposed, part_at, AreZones, AreSomeZones}
use Rattle.dpl_spec_split.specs.Pieces.{without, IsFirstSide, IsSecondSide, AreSides}
use Rattle.dpl_slabs.specs.Parts.{union_of}

-- zones of one feature that touch are one
abbrev pub ZonesStandApart : Type 0
ZonesStandApart = (spacing : Spacing) (overlap : ℕ) (layer : List Rect) (features : List (List Rect)) (zones : List Zone) → AreSomeZones spacing overlap (Covers layer) features zones
    → (z w : Zone) → Contains zones z → Contains zones w → z.feature ≡ w.feature → AreTouching (Has z.rect) (Has w.rect) → z ≡ w

abbrev pub IsLeftOrBelow : Rect → Pt → Type 0
IsLeftOrBelow z p = (p.x <ℤ z.x0) ⊎ (p.y <ℤ z.y0)

abbrev pub IsRightOrAbove : Rect → Pt → Type 0
IsRightOrAbove z p = (z.x1 ≤ℤ p.x) ⊎ (z.y1 ≤ℤ p.y)

-- What touches the zone from the rest of the layer is of its feature, and lies on one of two sides, the left or lower one and the right or upper one, each within one piece.
pub record HasTwoSides (layer : List Rect) (features pieces : List (List Rect)) (zones : List Zone) (z : Zone) : Type 0 where
  pub side : ℕ × ℕ
  pub are : AreSides features pieces z side
  pub first : (i : ℕ) → i < length pieces → IsFirstSide (part_at pieces i) z.rect → i ≡ side.0
  pub second : (i : ℕ) → i < length pieces → IsSecondSide (part_at pieces i) z.rect → i ≡ side.1
  pub own : (p q : Pt) → without (Covers layer) zones p → Has z.rect q → Touch p q → part_at features z.feature p
  pub two : (p q : Pt) → without (Covers layer) zones p → Has z.rect q → Touch p q →
      (IsLeftOrBelow z.rect p × (IsRightOrAbove z.rect p → ⊥)) ⊎ (IsRightOrAbove z.rect p × (IsLeftOrBelow z.rect p → ⊥))

abbrev pub ZonesHaveTwoSides : Type 0
ZonesHaveTwoSides = (spacing : Spacing) (overlap : ℕ) (layer : List Rect) (features pieces : List (List Rect)) (zones : List Zone) → 1 ≤ overlap → AreComponents (Covers layer) features
    → AreSomeZones spacing overlap (Covers layer) features zones → AreComponents (without (Covers layer) zones) pieces
    → (z : Zone) → Contains zones z → HasTwoSides layer features pieces zones z

-- transposing keeps distance, and being near
pub record TransposingKeepsDistance : Type 0 where
  pub squares : (p q : Pt) → d2 (at p.y p.x) (at q.y q.x) ≡ d2 p q
  pub sets : (spacing : Spacing) (a b : List Rect) → AreNear spacing (transposed (Covers a)) (transposed (Covers b)) ↔ AreNear spacing (Covers a) (Covers b)

-- zones depend on the squares of the layer alone
abbrev pub ZonesAreOfSquares : Type 0
ZonesAreOfSquares = (spacing : Spacing) (overlap : ℕ) (layer : List Rect) (features : List (List Rect)) (marked : List Rect) (zones : List Zone) → SameSquares (union_of features) (Covers layer)
    → AreZones spacing overlap (union_of features) features (Covers marked) zones → AreZones spacing overlap (Covers layer) features (Covers marked) zones
