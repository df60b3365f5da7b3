use Rattle.dpl_slabs.specs.Gaps.{AreLeftSoFar}
use Rattle.dpl_slabs.proofs.gaps.bars_without.Given as goal

abbrev pub invariant-loop-bar : goal.invariant-loop-bar
invariant-loop-bar l = AreLeftSoFar l.fn.bars.items l.gaps l.bar-index l.from l.left.items
