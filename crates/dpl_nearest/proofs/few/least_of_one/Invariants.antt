use Rattle.dpl_spec_split.specs.Squares.{Has}
use Rattle.dpl_nearest.specs.Search.{CoversFirst, IsLeastNear}
use Rattle.dpl_nearest.proofs.few.least_of_one.Given as goal

abbrev pub invariant-loop-other : goal.invariant-loop-other
invariant-loop-other l = IsLeastNear l.spacing (Has l.r) (CoversFirst l.other-index l.others) l.best
