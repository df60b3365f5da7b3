use Rattle.std.proofs.Common.{◌+◌, ◌-◌}
use Rattle.dpl_stars.specs.Growing.{IsGrown}
use Rattle.dpl_stars.proofs.reached.Reached.spread.Given as goal

abbrev pub invariant-loop-head : goal.invariant-loop-head
invariant-loop-head l = IsGrown l.edges l.n (l.root + 1) l.root l.head l.self

abbrev pub decreases-loop-head : goal.decreases-loop-head
decreases-loop-head l = l.n - l.head
