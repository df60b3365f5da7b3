use Rattle.std.specs.Prelude.{unsigned_abs, ◌-ℤ◌}
use Rattle.dpl_sweep.specs.Few.{AreDone}
use Rattle.dpl_sweep.proofs.few.pieces_by_bands.Given as goal

abbrev pub invariant-loop-low : goal.invariant-loop-low
invariant-loop-low l = AreDone l.rule l.edges l.low l.pieces.items

abbrev pub decreases-loop-low : goal.decreases-loop-low
decreases-loop-low l = unsigned_abs (l.top -ℤ l.low)
