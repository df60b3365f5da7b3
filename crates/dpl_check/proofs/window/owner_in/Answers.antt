use Rattle.dpl_check.proofs.Windows.{found-in, none-in}
use Rattle.dpl_check.proofs.window.owner_in.Goals as goal

pub returns-then-n-count-clause-some : goal.returns-then-n-count-clause-some
returns-then-n-count-clause-some c =
    let inside = rw c.count.ensures at c.if-n-count.true in
    rw (c.item.ensures c.item.result) (found-in c.args.tree.now c.args.window.now c.seek-n.result _ inside c.requires.window c.requires.items (c.seek-n.ensures.found _ inside))

pub returns-clause-none : goal.returns-clause-none
returns-clause-none c = λ none. none-in c.args.tree.now c.args.window.now c.seek-n.result (rw c.count.ensures at c.if-n-count.false) c.seek-n.ensures.passed
