use Rattle.dpl_law_verdict.proofs.Flips.{none-fewer}
use Rattle.dpl_law_verdict.proofs.no_flips_leave_fewer.Goals as goal

pub returns : goal.returns
returns c = none-fewer
