use Rattle.std.proofs.Common.{◌<◌, length}
use Rattle.std.proofs.lemmas.Result.{IfOk-from_err}
use Rattle.dpl_crowd.proofs.NearLaws.{foes-all, foes-more, foes-start, item-there}
use Rattle.dpl_crowd.proofs.near.add_foes.Goals as goal

pub loop-n-init : goal.loop-n-init
loop-n-init c = foes-start c.args.spacing c.args.owners.now c.args.k c.args.r.now c.args.tree.now c.widened-window.result c.seek-n.result _
    c.requires.corner c.widened-window.ensures c.seek-n.ensures.passed

pub add_item-requires-clause-other : goal.add_item-requires-clause-other
add_item-requires-clause-other c =
    let inside : c.loop-n.n < length c.args.tree.now = rw c.count.ensures at c.loop-n-test.true in
    (c.requires.items _ _ (item-there c.args.tree.now c.loop-n.n c.item.result inside (c.item.ensures c.item.result))).0

pub add_item-requires-clause-solid : goal.add_item-requires-clause-solid
add_item-requires-clause-solid c =
    let inside : c.loop-n.n < length c.args.tree.now = rw c.count.ensures at c.loop-n-test.true in
    (c.requires.items _ _ (item-there c.args.tree.now c.loop-n.n c.item.result inside (c.item.ensures c.item.result))).1

pub loop-n-preserved : goal.loop-n-preserved
loop-n-preserved c =
    let inside : c.loop-n.n < length c.args.tree.now = rw c.count.ensures at c.loop-n-test.true in
    foes-more c.args.spacing c.args.owners.now c.args.k c.args.r.now c.args.tree.now c.widened-window.result c.loop-n.n c.seek-n-in-loop-n.result c.item.result _ c.loop-n.found.items _
    c.requires.corner c.widened-window.ensures inside (c.item.ensures c.item.result) c.seek-n-in-loop-n.ensures.from c.seek-n-in-loop-n.ensures.passed c.loop-n.invariant
    c.in_ok-add_item.ensures

pub returns : goal.returns
returns c = foes-all c.args.spacing c.args.owners.now c.args.k c.args.r.now c.args.tree.now c.loop-n.n _ c.loop-n.found.items (rw c.count.ensures at c.loop-n-test.false) c.loop-n.invariant

pub returns-in_err-add_item : goal.returns-in_err-add_item
returns-in_err-add_item c = IfOk-from_err _ _ c.from_residual.ensures.0
