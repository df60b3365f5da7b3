use Rattle.dpl_sweep.proofs.BandLaws.{follows-none}
use Rattle.dpl_sweep.proofs.bands.follow_both.Goals as goal

pub returns-in-None-clause-below : goal.returns-in-None-clause-below
returns-in-None-clause-below c = rw c.in-None.is (follows-none c.args.below.now)

pub returns-in-None-clause-above : goal.returns-in-None-clause-above
returns-in-None-clause-above c = rw c.in-None.is (follows-none c.args.above.now)
