use Rattle.std.proofs.Common.{◌-◌, length}
use Rattle.dpl_tile.specs.Adding.{Adds}
use Rattle.dpl_tile.proofs.Adding.{OfFirst}
use Rattle.dpl_crowd.proofs.NearLaws.{IsFoeAt}
use Rattle.dpl_crowd.proofs.near.add_foes.Given as goal

abbrev pub invariant-loop-n : goal.invariant-loop-n
invariant-loop-n l = Adds (OfFirst (IsFoeAt l.spacing l.owners l.k l.r l.tree) l.n) l.initial.found.items l.found.items

abbrev pub decreases-loop-n : goal.decreases-loop-n
decreases-loop-n l = length l.tree - l.n
