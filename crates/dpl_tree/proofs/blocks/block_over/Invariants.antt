use Rattle.dpl_tree.proofs.BlockLaws.{IsOver}
use Rattle.dpl_tree.proofs.blocks.block_over.Given as goal

abbrev pub invariant-loop-i : goal.invariant-loop-i
invariant-loop-i g l = IsOver g.T.Bounded.block_of l.things l.first l.i l.block
