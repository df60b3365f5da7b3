use Rattle.std.proofs.Common.{◌≡◌, length}
use Rattle.dpl_tree.proofs.BlockLaws.{HasBlocks}
use Rattle.dpl_tree.proofs.blocks.level_over.Given as goal

abbrev pub invariant-loop-run : goal.invariant-loop-run
invariant-loop-run g l = record {
  count : length l.level.items ≡ l.run;
  blocks : HasBlocks g.T.Bounded.block_of l.things l.level.items;
}
