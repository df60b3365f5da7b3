use Rattle.dpl_sweep.specs.Rows.{bands_size}
use Rattle.dpl_sweep.proofs.bands.Bands.+put_down.Given as goal

abbrev pub decreases-put_down : goal.decreases-put_down
decreases-put_down l = bands_size l.self
