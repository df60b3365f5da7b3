use Rattle.std.specs.Prelude.{◌+◌}
use Rattle.dpl_zone.proofs.Joining.{AreBelow}
use Rattle.dpl_zone.proofs.kept.run_end.Given as goal

abbrev pub invariant-loop-k : goal.invariant-loop-k
invariant-loop-k l = AreBelow l.zones l.start (l.feature + 1) l.k
