use Rattle.std.proofs.Common.{take}
use Rattle.std.specs.List.{Contains}
use Rattle.std.specs.Prelude.{◌≤ℤ◌}
use Rattle.dpl_spec_split.specs.declared.Rect.{Rect}
use Rattle.dpl_upward.proofs.upward.top_of.Given as goal

abbrev pub invariant-loop-r : goal.invariant-loop-r
invariant-loop-r l = (r : Rect) → Contains (take l.r-index l.rects) r → r.y1 ≤ℤ l.top
