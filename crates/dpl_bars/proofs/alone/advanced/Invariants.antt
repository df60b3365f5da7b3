use Rattle.dpl_bars.specs.Alone.{ReachTo}
use Rattle.dpl_bars.proofs.alone.advanced.Given as goal

abbrev pub invariant-loop-i : goal.invariant-loop-i
invariant-loop-i l = ReachTo l.rects l.i l.reach
