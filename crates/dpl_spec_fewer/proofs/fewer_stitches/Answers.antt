use Rattle.dpl_spec_fewer.proofs.Ends.{none-gains, no-more, length-last, kept}
use Rattle.dpl_spec_fewer.proofs.fewer_stitches.Goals as goal

pub returns-clause-none : goal.returns-clause-none
returns-clause-none c = none-gains

pub returns-clause-no_more : goal.returns-clause-no_more
returns-clause-no_more c = no-more

pub returns-clause-kept : goal.returns-clause-kept
returns-clause-kept c = λ roots fixed sides colours last same led. (length-last roots fixed sides colours last same led, kept roots fixed sides colours last same led)
