use Rattle.dpl_law_outcome.proofs.Fewer.{fewer-no-more, no-flip-left}
use Rattle.dpl_law_outcome.proofs.outcome.fewer_tell_no_more.Goals as goal

pub returns-clause-more : goal.returns-clause-more
returns-clause-more c = fewer-no-more

pub returns-clause-left : goal.returns-clause-left
returns-clause-left c = no-flip-left
