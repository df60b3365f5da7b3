use Rattle.std.proofs.Common.{ℕ, ◌≤◌, ◌<◌, get_or}
use Rattle.std.specs.Prelude.{◌<ℤ◌}
use Rattle.dpl_spec_split.specs.declared.Rect.{Rect}
use Rattle.dpl_upward.proofs.upward.count_left.Given as goal

abbrev pub invariant-loop-i : goal.invariant-loop-i
invariant-loop-i l = (k : ℕ) (d : Rect) → l.from ≤ k → k < l.i → (get_or l.gaps k d).x0 <ℤ l.x
