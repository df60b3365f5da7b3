use Rattle.std.proofs.Common.{◌≡◌, take}
use Rattle.dpl_session.specs.Windows.{each_alone}
use Rattle.dpl_session.proofs.edges.apart.Given as goal

abbrev pub invariant-loop-r : goal.invariant-loop-r
invariant-loop-r l = l.sets.items ≡ each_alone (take l.r-index l.slabs)
