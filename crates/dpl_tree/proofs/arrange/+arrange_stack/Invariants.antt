use Rattle.std.proofs.Common.{length}
use Rattle.dpl_tree.proofs.arrange.+arrange_stack.Given as goal

abbrev pub decreases-arrange_stack : goal.decreases-arrange_stack
decreases-arrange_stack l = length l.items.now
