-- The marks of two trees.
use Rattle.std.specs.Prelude.{Option, Some, None}
use Rattle.dpl_spec_split.specs.Squares.{SameSquares}
use Rattle.dpl_spec_split.specs.Marks.{Marks, marked_a, marked_b}
use Rattle.dpl_spec_verdict.specs.Conflicts.{AreAsked}
use Rattle.dpl_check.specs.declared.anchors.MarkTrees.{MarkTrees}

abbrev pub marks_of : Option MarkTrees → Option Marks
marks_of None = None
marks_of (Some t) = Some (record { a = t.a; b = t.b })

-- both are asked for, or neither is, and the same squares are fixed to the same masks
pub record FixTheSame (marks other : Option Marks) : Type 0 where
  pub here : AreAsked marks → AreAsked other
  pub there : AreAsked other → AreAsked marks
  pub on_a : SameSquares (marked_a marks) (marked_a other)
  pub on_b : SameSquares (marked_b marks) (marked_b other)
