use Rattle.std.proofs.Common.{◌^◌, ◌<◌, suc, length, map}
use Rattle.dpl_tree.specs.StoredItems.{item_of}
use Rattle.dpl_tree.specs.Blocks.{AreCovered, IsLevelOver, item_block}
use Rattle.dpl_tree.proofs.BlockLaws.{AreHigh}
use Rattle.dpl_tree.proofs.blocks.levels_over.Given as goal

abbrev pub invariant-loop-alloc : goal.invariant-loop-alloc
invariant-loop-alloc l = record {
  covered : AreCovered (map item_of l.items) l.levels.items;
  high : AreHigh (map item_of l.items) l.levels.items;
  top : IsLevelOver item_block (map item_of l.items) (8 ^ suc (length l.levels.items)) l.top.items;
  more : 8 ^ suc (length l.levels.items) < length (map item_of l.items);
}

abbrev pub decreases-loop-alloc : goal.decreases-loop-alloc
decreases-loop-alloc l = length l.top.items
