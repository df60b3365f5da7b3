use Rattle.dpl_spec_split.specs.Squares.{Covers}
use Rattle.dpl_nearest.specs.Search.{CoversFirst, IsLeastNear}
use Rattle.dpl_nearest.proofs.few.least_of_few.Given as goal

abbrev pub invariant-loop-r : goal.invariant-loop-r
invariant-loop-r l = IsLeastNear l.spacing (CoversFirst l.r-index l.rects) (Covers l.others) l.best
