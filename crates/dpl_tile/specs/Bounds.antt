-- The least rectangle round some rectangles, one after the other.
use Rattle.std.specs.Prelude.{List, Option}
use Rattle.std.specs.List.{fold}
use Rattle.dpl_spec_split.specs.declared.Rect.{Rect}
use Rattle.dpl_base.specs.Bounds.{round_one}

abbrev pub round_all : Option Rect → List Rect → Option Rect
round_all before rects = fold round_one before rects
