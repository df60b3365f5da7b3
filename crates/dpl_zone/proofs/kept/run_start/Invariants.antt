use Rattle.dpl_zone.proofs.Joining.{AreBelow}
use Rattle.dpl_zone.proofs.kept.run_start.Given as goal

abbrev pub invariant-loop-k : goal.invariant-loop-k
invariant-loop-k l = AreBelow l.zones l.start l.feature l.k
