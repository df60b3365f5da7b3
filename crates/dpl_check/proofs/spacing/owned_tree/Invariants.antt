use Rattle.dpl_check.proofs.Owning.{OwnsBelow}
use Rattle.dpl_check.proofs.spacing.owned_tree.Given as goal

abbrev pub invariant-loop-i : goal.invariant-loop-i
invariant-loop-i l = OwnsBelow l.rects l.owners l.i l.items
