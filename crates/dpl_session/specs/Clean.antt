-- Which tiles an edit leaves as they are.
use Rattle.std.specs.Prelude.{◌≡◌, ◌↔◌, ℕ, List, None}
use Rattle.std.specs.List.{Any}
use Rattle.dpl_spec_split.specs.declared.Pt.{Pt}
use Rattle.dpl_spec_split.specs.declared.Rect.{Rect}
use Rattle.dpl_spec_split.specs.declared.Spacing.{Spacing}
use Rattle.dpl_spec_split.specs.declared.Zone.{Zone}
use Rattle.dpl_spec_split.specs.Squares.{Region, Covers, Has}
use Rattle.dpl_spec_split.specs.Components.{Linked}
use Rattle.dpl_spec_split.specs.Pieces.{without}
use Rattle.dpl_spec_split.specs.Decomposition.{Cut, IsCut}
use Rattle.dpl_session.specs.Tiles.{IsTile, window}

-- a square of some zone
abbrev pub InZone : List Zone → Region
InZone zones p = Any (λ z. Has z.rect p) zones

-- In a window two layers with their zones are the same: they have the same squares, the same of these are in a zone, the same pairs of them
-- share a feature, and the same pairs share a piece.
pub record IsClean (w : Rect) (before : Region) (zones : List Zone) (after : Region) (others : List Zone) : Type 0 where
  pub squares : (p : Pt) → Has w p → before p ↔ after p
  pub zoned : (p : Pt) → Has w p → before p → InZone zones p ↔ InZone others p
  pub features : (p q : Pt) → Has w p → Has w q → Linked before p q ↔ Linked after p q
  pub pieces : (p q : Pt) → Has w p → Has w q → Linked (without before zones) p q ↔ Linked (without after others) p q

-- A tile of the layer after, with sides of so many squares, that isn't clean: its window isn't the same in both layers, or the side was another one.
pub record IsDirty (spacing : Spacing) (overlap : ℕ) (before : List Rect) (side : ℕ) (after : List Rect) (other : ℕ) (tile : Rect) : Type 0 where
  pub is : IsTile other (Covers after) tile
  pub first : Cut
  pub second : Cut
  pub first_of : IsCut None spacing overlap (Covers before) first
  pub second_of : IsCut None spacing overlap (Covers after) second
  pub changed : side ≡ other → IsClean (window spacing.rule tile) (Covers before) first.zones (Covers after) second.zones → ⊥
