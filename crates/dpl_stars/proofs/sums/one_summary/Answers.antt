use Rattle.dpl_stars.proofs.OneSummary.{one-summary}
use Rattle.dpl_stars.proofs.sums.one_summary.Goals as goal

pub returns : goal.returns
returns c = one-summary
