use Rattle.dpl_tree.proofs.SetLaws.{set-items, set-squares, set-solid}
use Rattle.dpl_tree.proofs.set.SetTree.of.Goals as goal

pub invariant_of-result : goal.invariant_of-result
invariant_of-result c =
    set-solid c.args.set.now c.in_ok-tree.tree
    (set-items c.args.set.now c.rects.result.now c.new-items.result _ c.in_ok-tree.tree c.new-items.ensures c.rects.ensures.value c.in_ok-add.ensures c.in_ok-tree.ensures)
    c.rects.ensures.canonical.solid

pub returns : goal.returns
returns c =
    set-squares c.args.set.now c.in_ok-tree.tree
    (set-items c.args.set.now c.rects.result.now c.new-items.result _ c.in_ok-tree.tree c.new-items.ensures c.rects.ensures.value c.in_ok-add.ensures c.in_ok-tree.ensures)
