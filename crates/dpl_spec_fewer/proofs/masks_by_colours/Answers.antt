use Rattle.dpl_spec_fewer.proofs.Painting.{masks-one, plain-masks}
use Rattle.dpl_spec_fewer.proofs.masks_by_colours.Goals as goal

pub returns-clause-plain : goal.returns-clause-plain
returns-clause-plain c = plain-masks

pub returns-clause-one : goal.returns-clause-one
returns-clause-one c = masks-one
