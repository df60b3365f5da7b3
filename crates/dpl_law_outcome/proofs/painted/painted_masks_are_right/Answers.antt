use Rattle.dpl_law_outcome.proofs.Masks.{painted-right}
use Rattle.dpl_law_outcome.proofs.painted.painted_masks_are_right.Goals as goal

pub returns : goal.returns
returns c = painted-right
