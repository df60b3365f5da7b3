-- Boundaries and boxes that can't be drawn.
use Rattle.std.specs.Prelude.{List}
use Rattle.dpl_spec_split.specs.declared.Pt.{Pt}
use Rattle.dpl_spec_split.specs.Loops.{IsRectilinear}

-- some edge isn't parallel to an axis
abbrev pub IsSlanted : List Pt → Type 0
IsSlanted points = IsRectilinear points → ⊥
