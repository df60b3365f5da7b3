use Rattle.dpl_sweep.proofs.Orders.{rows-rise}
use Rattle.dpl_sweep.proofs.order.sort_rows.Goals as goal

pub returns-clause-rise : goal.returns-clause-rise
returns-clause-rise c = rows-rise _ c.sort.ensures.sorted
