-- Edits that change nothing.
use Rattle.std.specs.Prelude.{◌≡◌, ℕ, List, [], ◌∷◌}
use Rattle.dpl_spec_split.specs.declared.Pt.{Pt}
use Rattle.dpl_spec_split.specs.declared.Rect.{Rect}
use Rattle.dpl_spec_split.specs.Squares.{Covers, Has, SameSquares}
use Rattle.dpl_spec_split.specs.Slabs.{IsCanonical}
use Rattle.dpl_spec_edits.specs.declared.Edit.{Edit}
use Rattle.dpl_spec_edits.specs.declared.Edit.TheVariants.{Add}
use Rattle.dpl_spec_edits.specs.Edits.{edited}
use Rattle.dpl_session.specs.Tiles.{IsSide}
use Rattle.dpl_session.specs.Held.{Held, TookFewDirty}

-- what every session holds: canonical slabs, and cells whose side is that of its layer
pub record IsSound (s : Held) : Type 0 where
  pub canonical : IsCanonical s.layer
  pub tile : ℕ
  pub side : IsSide (Covers s.layer) tile s.side

-- edits after which the layer has the squares that it had take no step
abbrev pub NoChangeTakesNoStep : Type 0
NoChangeTakesNoStep = (s : Held) (edits : List Edit) (from to : ℕ) → IsSound s → SameSquares (Covers s.layer) (edited (Covers s.layer) edits)
    → TookFewDirty s edits from to → to ≡ from

-- a rectangle that is added to a layer which covers it takes no step
abbrev pub CoveredTakesNoStep : Type 0
CoveredTakesNoStep = (s : Held) (r : Rect) (from to : ℕ) → IsSound s → ((p : Pt) → Has r p → Covers s.layer p)
    → TookFewDirty s (Add r ∷ []) from to → to ≡ from
