use Rattle.std.proofs.Common.{length}
use Rattle.dpl_slabs.proofs.LoopLaws.{ArePut}
use Rattle.dpl_slabs.proofs.loops.rects_of_loops_by.Given as goal

abbrev pub invariant-loop-list : goal.invariant-loop-list
invariant-loop-list g l = ArePut l.loops l.count l.lists.items l.rects.items

abbrev pub decreases-loop-list : goal.decreases-loop-list
decreases-loop-list g l = length l.lists.items
