use Rattle.dpl_slabs.specs.Gaps.{IsCutUpTo}
use Rattle.dpl_slabs.proofs.gaps.add_bar_without.Given as goal

abbrev pub invariant-loop-at : goal.invariant-loop-at
invariant-loop-at l = IsCutUpTo l.bar l.gaps l.fn.left.items l.at l.x l.left.items
