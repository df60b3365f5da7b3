use Rattle.std.proofs.Common.{◌+◌, ◌*◌, ◌-◌, ◌≤◌, length, map}
use Rattle.dpl_tree.specs.StoredItems.{item_of}
use Rattle.dpl_tree.specs.Trees.{ArePassed}
use Rattle.dpl_tree.specs.Blocks.{start_of}
use Rattle.dpl_tree.proofs.search.seek_in.Given as goal

abbrev pub invariant-loop-end : goal.invariant-loop-end
invariant-loop-end l = record {
  level : l.place.level ≤ length l.levels;
  from : l.from ≤ start_of l.place;
  passed : ArePassed l.window l.owners (map item_of l.items) l.from (start_of l.place);
}

-- first by the items that are left, then by the levels
abbrev pub decreases-loop-end : goal.decreases-loop-end
decreases-loop-end l = (length (map item_of l.items) - start_of l.place) * (length l.levels + 1) + l.place.level
