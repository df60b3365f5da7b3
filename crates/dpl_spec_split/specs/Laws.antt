-- What follows from the definitions.
use Rattle.std.specs.Prelude.{◌≡◌, ℕ, List, Option}
use Rattle.dpl_spec_split.specs.declared.Spacing.{Spacing}
use Rattle.dpl_spec_split.specs.declared.Rect.{Rect}
use Rattle.dpl_spec_split.specs.Squares.{Covers}
use Rattle.dpl_spec_split.specs.Marks.{Marks}
use Rattle.dpl_spec_split.specs.Decomposition.{Cut, Answer, IsDecomposition}

-- a layer has at most one decomposition, with marks and without
abbrev pub IsOneDecomposition : Type 0
IsOneDecomposition = (marks : Option Marks) (spacing : Spacing) (overlap : ℕ) (layer : List Rect) (c d : Cut) (x y : Answer) → IsDecomposition marks spacing overlap (Covers layer) c x
    → IsDecomposition marks spacing overlap (Covers layer) d y → (c ≡ d) × (x ≡ y)
