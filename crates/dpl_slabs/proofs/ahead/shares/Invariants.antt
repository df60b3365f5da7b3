use Rattle.std.proofs.Common.{length, ◌-◌}
use Rattle.dpl_slabs.proofs.ahead.shares.Given as goal

abbrev pub decreases-loop-start : goal.decreases-loop-start
decreases-loop-start l = length l.rects - l.start
