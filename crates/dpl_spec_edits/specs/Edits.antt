-- What edits make of a set of squares.
use Rattle.std.specs.Prelude.{◌⊎◌, List, [], ◌∷◌}
use Rattle.dpl_spec_split.specs.declared.Rect.{Rect}
use Rattle.dpl_spec_split.specs.Squares.{Has, Region}
use Rattle.dpl_spec_edits.specs.declared.Edit.{Edit}
use Rattle.dpl_spec_edits.specs.declared.Edit.TheVariants.{Add, Remove}

abbrev pub rect_of : Edit → Rect
rect_of (Add r) = r
rect_of (Remove r) = r

-- an edit adds the squares of its rectangle, or takes them away
abbrev pub with_edit : Region → Edit → Region
with_edit a (Add r) p = a p ⊎ Has r p
with_edit a (Remove r) p = a p × ¬ Has r p

-- edits are made in order
abbrev pub edited : Region → List Edit → Region
edited a [] = a
edited a (e ∷ es) = edited (with_edit a e) es
