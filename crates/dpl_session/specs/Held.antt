-- What a session holds, and what edits make of it.
use Rattle.std.specs.Prelude.{◌≡◌, ◌++◌, ℕ, List}
use Rattle.dpl_spec_split.specs.declared.Rect.{Rect}
use Rattle.dpl_spec_split.specs.declared.Spacing.{Spacing}
use Rattle.dpl_spec_split.specs.Squares.{Covers}
use Rattle.dpl_spec_split.specs.Slabs.{AreSlabsOf}
use Rattle.dpl_spec_edits.specs.declared.Edit.{Edit}
use Rattle.dpl_spec_edits.specs.Edits.{edited}
use Rattle.dpl_session.specs.Tiles.{IsSide, TookFew}
use Rattle.dpl_session.specs.Clean.{IsDirty}

-- the canonical slabs of a layer, its spacing and overlap, and the side of the cells
pub record Held : Type 0 where
  pub spacing : Spacing
  pub overlap : ℕ
  pub side : ℕ
  pub layer : List Rect

-- a session that is opened on a layer
pub record IsOpened (spacing : Spacing) (overlap tile : ℕ) (layer : List Rect) (new : Held) : Type 0 where
  pub spacing_is : new.spacing ≡ spacing
  pub overlap_is : new.overlap ≡ overlap
  pub side : IsSide (Covers new.layer) tile new.side
  pub layer_is : new.layer ≡ layer

-- what edits, made in order, leave of what a session holds
pub record IsEdited (old : Held) (edits : List Edit) (new : Held) : Type 0 where
  pub spacing_is : new.spacing ≡ old.spacing
  pub overlap_is : new.overlap ≡ old.overlap
  pub side : IsSide (Covers new.layer) old.side new.side
  pub layer : AreSlabsOf (edited (Covers old.layer) edits) new.layer

-- a step was one dirty tile of the edited layer, another one each time, by the side of the cells over it
abbrev pub TookFewDirty : Held → List Edit → ℕ → ℕ → Type 0
TookFewDirty old edits from to = (after : List Rect) (side : ℕ) → AreSlabsOf (edited (Covers old.layer) edits) after → IsSide (Covers after) old.side side
    → TookFew (IsDirty old.spacing old.overlap old.layer old.side after side) from to

-- edits, and then others, leave what all of them in a row leave
abbrev pub EditsOneAfterAnother : Type 0
EditsOneAfterAnother = (a b c : Held) (es fs : List Edit) → IsEdited a es b → IsEdited b fs c
    → (c.spacing ≡ a.spacing) × (c.overlap ≡ a.overlap) × AreSlabsOf (edited (Covers a.layer) (es ++ fs)) c.layer
