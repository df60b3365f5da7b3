use Rattle.dpl_spec_fewer.proofs.Ends.{one-end, one-fewer}
use Rattle.dpl_spec_fewer.proofs.one_fewer.Goals as goal

pub returns-clause-end : goal.returns-clause-end
returns-clause-end c = one-end

pub returns-clause-colours : goal.returns-clause-colours
returns-clause-colours c = one-fewer
