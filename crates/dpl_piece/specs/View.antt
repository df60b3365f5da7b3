-- Pieces and marked squares in the words of the definitions.
use Rattle.std.specs.Prelude.{List, Option}
use Rattle.dpl_spec_split.specs.declared.Rect.{Rect}
use Rattle.dpl_spec_split.specs.Squares.{Covers, SameSquares}
use Rattle.dpl_spec_split.specs.Marks.{Marks, marked_by}
use Rattle.dpl_spec_split.specs.Decomposition.{Cut}
use Rattle.dpl_piece.specs.Cutting.{CutPieces}

-- the cut of these features into pieces
abbrev pub cut_view : List (List Rect) → CutPieces → Cut
cut_view features c = record { features = features; zones = c.zones; pieces = c.parts; owners = c.owners; keys = c.keys; sides = c.sides }

-- the set has just the squares that the marks fix
abbrev pub IsMarkedSet : List Rect → Option Marks → Type 0
IsMarkedSet set marks = SameSquares (Covers set) (marked_by marks)
