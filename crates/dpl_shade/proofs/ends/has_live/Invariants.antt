use Rattle.dpl_shade.specs.Ends.{HasLive}
use Rattle.dpl_shade.proofs.ends.has_live.Given as goal

abbrev pub invariant-loop-k : goal.invariant-loop-k
invariant-loop-k l = HasLive l.dead l.start l.k → ⊥
