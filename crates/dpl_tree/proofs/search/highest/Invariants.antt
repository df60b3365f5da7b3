use Rattle.std.proofs.Common.{◌≡◌, ◌*◌, ◌^◌, ◌-◌, ◌≤◌}
use Rattle.dpl_tree.specs.Blocks.{start_of}
use Rattle.dpl_tree.proofs.search.highest.Given as goal

abbrev pub invariant-loop-level : goal.invariant-loop-level
invariant-loop-level l = record {
  low : l.level ≤ l.levels;
  start : l.at * 8 ^ l.level ≡ start_of l.fn.place;
}

abbrev pub decreases-loop-level : goal.decreases-loop-level
decreases-loop-level l = l.levels - l.level
