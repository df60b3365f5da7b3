-- What edits come down to.
use Rattle.std.specs.Prelude.{◌⊎◌, List}
use Rattle.dpl_spec_split.specs.declared.Rect.{Rect}
use Rattle.dpl_spec_split.specs.Squares.{Region, SameSquares, Covers}
use Rattle.dpl_spec_edits.specs.declared.Edit.{Edit}
use Rattle.dpl_spec_edits.specs.declared.Edit.TheVariants.{Add, Remove}
use Rattle.dpl_spec_edits.specs.Edits.{edited}
use Rattle.dpl_edits.specs.declared.applying.Change.{Change}

abbrev pub IsAdd : Edit → Type 0
IsAdd (Add r) = Unit {0}
IsAdd (Remove r) = ⊥

abbrev pub IsRemove : Edit → Type 0
IsRemove (Add r) = ⊥
IsRemove (Remove r) = Unit {0}

-- the squares without those of the removed rectangles, and the added ones
abbrev pub with_change : Region → Change → Region
with_change a c p = (a p × ¬ Covers c.removed.items p) ⊎ Covers c.added p

-- the edits make of any layer what the change makes of it
abbrev pub IsChangeOf : List Edit → Change → Type 0
IsChangeOf es c = (layer : List Rect) → SameSquares (with_change (Covers layer) c) (edited (Covers layer) es)
