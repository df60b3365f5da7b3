use Rattle.dpl_spec_fewer.proofs.Flips.{all-sides}
use Rattle.dpl_spec_fewer.proofs.flips_by_counts.Goals as goal

pub returns : goal.returns
returns c = λ roots sides colours root h. all-sides roots colours root h.each sides h.within
