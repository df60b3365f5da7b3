use Rattle.dpl_check.specs.Findings.{IsLeastOf}
use Rattle.dpl_check.specs.Owned.{foreign}
use Rattle.dpl_check.proofs.spacing.first_foreign.Given as goal

abbrev pub invariant-loop-i : goal.invariant-loop-i
invariant-loop-i l = IsLeastOf (foreign l.spacing l.rects l.owners l.tree l.i) l.best
