use Rattle.std.specs.Prelude.{◌+◌}
use Rattle.dpl_sweep.specs.Rows.{bands_size}
use Rattle.dpl_sweep.proofs.balance.+join.Given as goal

abbrev pub decreases-join : goal.decreases-join
decreases-join l = bands_size l.below + bands_size l.above
