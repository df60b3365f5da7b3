use Rattle.std.proofs.Common.{◌≤◌, ◌-◌, length}
use Rattle.dpl_view.proofs.units.body_of.Given as goal

abbrev pub invariant-loop-at : goal.invariant-loop-at
invariant-loop-at l = l.at ≤ length l.copied

abbrev pub decreases-loop-at : goal.decreases-loop-at
decreases-loop-at l = length l.copied - l.at
