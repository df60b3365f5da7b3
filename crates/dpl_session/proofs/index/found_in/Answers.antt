use Rattle.std.proofs.Common.{◌<◌, length}
use Rattle.dpl_session.proofs.Seeking.{found_first, found_more, found_squares, found_within}
use Rattle.dpl_session.proofs.index.found_in.Goals as goal

pub loop-n-init : goal.loop-n-init
loop-n-init c = rw c.new-found.ensures.items (found_first c.args.window.now c.args.tree.now c.seek-n.result c.seek-n.ensures.passed)

pub loop-n-preserved : goal.loop-n-preserved
loop-n-preserved c =
    let inside : c.loop-n.n < length c.args.tree.now = rw c.count.ensures at c.loop-n-test.true in
    rw c.in_ok-push.ensures.items (found_more c.args.window.now c.args.tree.now c.loop-n.found.items c.loop-n.n c.seek-n-in-loop-n.result c.item.result inside c.item.ensures
    c.loop-n.invariant c.seek-n-in-loop-n.ensures.passed)

pub returns-clause-within : goal.returns-clause-within
returns-clause-within c = λ parts parted are. found_within c.args.window.now parts c.args.tree.now c.loop-n.found.items c.loop-n.n parted are c.loop-n.invariant

pub returns-clause-squares : goal.returns-clause-squares
returns-clause-squares c = λ parts are. found_squares c.args.window.now parts c.args.tree.now c.loop-n.found.items c.loop-n.n are c.loop-n.invariant
    (rw c.count.ensures at c.loop-n-test.false)
