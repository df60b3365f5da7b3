use Rattle.dpl_crowd.specs.Walking.{IsLeast}
use Rattle.dpl_crowd.proofs.LeastLaws.{IsOnFirst}
use Rattle.dpl_crowd.proofs.least.least_on.Given as goal

abbrev pub invariant-loop-v : goal.invariant-loop-v
invariant-loop-v l = IsLeast (IsOnFirst l.found l.levels l.from l.level l.v-index) l.least
