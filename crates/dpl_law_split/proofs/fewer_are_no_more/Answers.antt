use Rattle.dpl_law_split.proofs.Counted.{no-more-stitches}
use Rattle.dpl_law_split.proofs.fewer_are_no_more.Goals as goal

pub returns : goal.returns
returns c = no-more-stitches
