use Rattle.std.proofs.Common.{[], ◌∷◌}
use Rattle.std.proofs.lemmas.Result.{IfOk-from_err}
use Rattle.dpl_spec_split.specs.Squares.{Covers}
use Rattle.dpl_tree.specs.declared.owners.Owners.TheVariants.{All as Everyone}
use Rattle.dpl_nearest.specs.Search.{ItemCovers}
use Rattle.dpl_check.specs.Findings.{IsWrongStitch}
use Rattle.dpl_check.proofs.Finding.{first-same}
use Rattle.dpl_check.proofs.Stitches.{wrong-outside, stitch-inside, slab-items}
use Rattle.dpl_check.proofs.stitch.bad_stitch.Goals as goal

pub first_wrong-requires-clause-items : goal.first_wrong-requires-clause-items
first_wrong-requires-clause-items c = slab-items c.in_ok-off.off c.rects-2.result.now c.in_ok-tree.tree c.rects-2.ensures.value c.rects-2.ensures.canonical c.in_ok-tree.ensures

pub returns : goal.returns
returns c =
    let off = rw c.rects.ensures.value at c.in_ok-off.ensures in
    let are = rw c.rects-2.ensures.value at c.in_ok-tree.ensures in
    first-same (IsWrongStitch c.args.overlap (ItemCovers Everyone c.in_ok-tree.tree) c.args.pieces.now)
    (IsWrongStitch c.args.overlap (λ p. ¬ Covers c.args.both.now p) c.args.pieces.now) c.args.stitches.now c.first_wrong.result
    (wrong-outside c.args.overlap (c.in-Some.bounds ∷ []) c.args.both.now c.in_ok-off.off c.args.pieces.now c.args.stitches.now
    c.in_ok-tree.tree (stitch-inside c.args.stitches.now c.in-Some.bounds c.in-Some.ensures.all) off are) c.first_wrong.ensures

pub returns-in_err-off : goal.returns-in_err-off
returns-in_err-off c = IfOk-from_err _ _ c.from_residual.ensures.0

pub returns-in_err-tree : goal.returns-in_err-tree
returns-in_err-tree c = IfOk-from_err _ _ c.from_residual-in_err-tree.ensures.0
