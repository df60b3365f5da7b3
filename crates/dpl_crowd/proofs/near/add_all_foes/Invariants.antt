use Rattle.dpl_tile.specs.Adding.{Adds}
use Rattle.dpl_tile.proofs.Adding.{OfFirst}
use Rattle.dpl_tile.proofs.Loops.{Nth}
use Rattle.dpl_crowd.specs.Crowds.{IsFoeAmong}
use Rattle.dpl_crowd.proofs.near.add_all_foes.Given as goal

abbrev pub invariant-loop-r : goal.invariant-loop-r
invariant-loop-r l = Adds (OfFirst (Nth (λ r w. IsFoeAmong l.spacing l.owners l.k r l.tree w) l.slabs) l.r-index) l.initial.found.items l.found.items
