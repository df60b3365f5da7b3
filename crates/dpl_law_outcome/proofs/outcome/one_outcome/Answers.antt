use Rattle.dpl_law_outcome.proofs.Outcomes.{outcome-same}
use Rattle.dpl_law_outcome.proofs.Runs.{run-same}
use Rattle.dpl_law_outcome.proofs.outcome.one_outcome.Goals as goal

pub returns : goal.returns
returns c = record { files = outcome-same; words = run-same }
