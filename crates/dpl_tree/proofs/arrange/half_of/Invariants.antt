use Rattle.std.proofs.Common.{◌-◌, ◌<◌, ◌≤◌}
use Rattle.dpl_tree.proofs.arrange.half_of.Given as goal

abbrev pub invariant-loop-wide : goal.invariant-loop-wide
invariant-loop-wide l = record {
  some : 8 ≤ l.wide;
  less : l.wide < l.count;
}

abbrev pub decreases-loop-wide : goal.decreases-loop-wide
decreases-loop-wide l = l.count - l.wide
