use Rattle.dpl_stars.specs.Growing.{reached_count, IsGrown}
use Rattle.dpl_stars.proofs.levels.levels_of.Given as goal

abbrev pub invariant-loop-v : goal.invariant-loop-v
invariant-loop-v l = IsGrown l.edges l.n l.v l.v (reached_count l.reached) l.reached
