use Rattle.dpl_law_outcome.proofs.ReadBack.{read-back}
use Rattle.dpl_law_outcome.proofs.reread.masks_read_back.Goals as goal

pub returns : goal.returns
returns c = read-back
