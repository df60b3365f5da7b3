use Rattle.dpl_spec_split.proofs.SlabLaws.{canonical-unique}
use Rattle.dpl_spec_split.proofs.one_form.Goals as goal

pub returns : goal.returns
returns c = canonical-unique
