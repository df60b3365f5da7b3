use Rattle.dpl_check.proofs.Windows.{at-some}
use Rattle.dpl_check.proofs.window.owner_at.Goals as goal

pub returns-clause-some : goal.returns-clause-some
returns-clause-some c = at-some c.args.tree.now c.args.p c.window_at-window.result c.owner_in.result c.window_at-window.ensures c.owner_in.ensures.some
