use Rattle.dpl_sweep.specs.Rows.{bands_size}
use Rattle.dpl_sweep.proofs.bands.Bands.+sweep.Given as goal

abbrev pub decreases-sweep : goal.decreases-sweep
decreases-sweep l = bands_size l.self.now
