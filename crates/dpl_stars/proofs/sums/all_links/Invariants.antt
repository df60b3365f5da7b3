use Rattle.std.proofs.Common.{take}
use Rattle.dpl_stars.specs.Links.{StandFor}
use Rattle.dpl_stars.proofs.sums.all_links.Given as goal

abbrev pub invariant-loop-sum : goal.invariant-loop-sum
invariant-loop-sum l = StandFor (take l.sum-index l.sums) l.edges.items
