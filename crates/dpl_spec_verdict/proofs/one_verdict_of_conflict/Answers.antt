use Rattle.dpl_spec_verdict.proofs.OrderLaws.{conflict-unique}
use Rattle.dpl_spec_verdict.proofs.one_verdict_of_conflict.Goals as goal

pub returns : goal.returns
returns c = conflict-unique
