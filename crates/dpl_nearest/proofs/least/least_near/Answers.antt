use Rattle.std.proofs.lemmas.Result.{IfOk-from_err}
use Rattle.dpl_spec_split.specs.Squares.{Covers}
use Rattle.dpl_tree.specs.declared.owners.Owners.TheVariants.{All as Everyone}
use Rattle.dpl_nearest.specs.Search.{ItemCovers}
use Rattle.dpl_nearest.proofs.ItemLaws.{items-solid, items-cover, covers-items, least-beside}
use Rattle.dpl_nearest.proofs.least.least_near.Goals as goal

pub least_in_tree-requires-clause-others : goal.least_in_tree-requires-clause-others
least_in_tree-requires-clause-others c = items-solid c.args.others.now c.in_ok-tree.tree c.in_ok-tree.ensures c.requires.others_solid

pub returns : goal.returns
returns c = least-beside c.args.spacing (Covers c.args.rects.now) (ItemCovers Everyone c.in_ok-tree.tree) (Covers c.args.others.now) c.least_in_tree.result
    (items-cover c.args.others.now c.in_ok-tree.tree c.in_ok-tree.ensures) (covers-items c.args.others.now c.in_ok-tree.tree c.in_ok-tree.ensures) c.least_in_tree.ensures

pub returns-in_err-tree : goal.returns-in_err-tree
returns-in_err-tree c = IfOk-from_err _ _ c.from_residual.ensures.0
