use Rattle.dpl_tree.specs.declared.owners.Owners.TheVariants.{All as Everyone}
use Rattle.dpl_nearest.specs.Search.{IsLeastNear, CoversFirst, ItemCovers}
use Rattle.dpl_nearest.proofs.least.least_in_tree.Given as goal

abbrev pub invariant-loop-r : goal.invariant-loop-r
invariant-loop-r l = IsLeastNear l.spacing (CoversFirst l.r-index l.rects) (ItemCovers Everyone l.others) l.best
