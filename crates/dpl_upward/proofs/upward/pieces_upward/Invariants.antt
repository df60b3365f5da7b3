use Rattle.std.specs.Prelude.{unsigned_abs, ◌-ℤ◌}
use Rattle.dpl_upward.specs.Sweeps.{IsSweptTo}
use Rattle.dpl_upward.proofs.upward.pieces_upward.Given as goal

abbrev pub invariant-loop-low : goal.invariant-loop-low
invariant-loop-low l = IsSweptTo l.low l.rects l.holes l.sweep

abbrev pub decreases-loop-low : goal.decreases-loop-low
decreases-loop-low l = unsigned_abs (l.top -ℤ l.low)
