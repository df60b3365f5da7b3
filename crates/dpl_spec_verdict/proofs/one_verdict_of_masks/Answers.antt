use Rattle.dpl_spec_verdict.proofs.OrderLaws.{masks-unique}
use Rattle.dpl_spec_verdict.proofs.one_verdict_of_masks.Goals as goal

pub returns : goal.returns
returns c = masks-unique
