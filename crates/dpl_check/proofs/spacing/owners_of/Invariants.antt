use Rattle.std.proofs.Common.{take}
use Rattle.dpl_check.specs.Owned.{AreOwners}
use Rattle.dpl_check.proofs.spacing.owners_of.Given as goal

abbrev pub invariant-loop-r : goal.invariant-loop-r
invariant-loop-r l = AreOwners l.tree (take l.r-index l.rects) l.owners.items
