use Rattle.dpl_law_outcome.proofs.Taken.{masks-read}
use Rattle.dpl_law_outcome.proofs.reread.masks_are_read.Goals as goal

pub returns : goal.returns
returns c = masks-read
