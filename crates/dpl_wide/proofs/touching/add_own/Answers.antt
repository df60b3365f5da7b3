use Rattle.std.proofs.Common.{◌<◌, ◌++◌, ◌∷◌, [], length, ap, ◌∙◌}
use Rattle.std.proofs.lemmas.Result.{IfOk-from_err}
use Rattle.dpl_tile.proofs.Loops.{each-all}
use Rattle.dpl_wide.specs.Sheets.{IsOwnEdge}
use Rattle.dpl_wide.proofs.Finding.{sought-first, sought-next}
use Rattle.dpl_wide.proofs.touching.add_own.Goals as goal

pub loop-n-init : goal.loop-n-init
loop-n-init c = sought-first c.args.cell.now c.args.tree.now c.seek-n.result _ c.seek-n.ensures.passed c.seek-n.ensures.found

pub loop-n-preserved : goal.loop-n-preserved
loop-n-preserved c =
    let inside : c.loop-n.n < length c.args.tree.now = rw c.count.ensures at c.loop-n-test.true in
    sought-next c.args.cell.now c.args.tree.now c.loop-n.n c.seek-n-in-loop-n.result c.item-k.result _ c.loop-n.edges.items _ inside (c.item-k.ensures c.item-k.result)
    c.seek-n-in-loop-n.ensures.from c.seek-n-in-loop-n.ensures.passed c.seek-n-in-loop-n.ensures.found c.loop-n.invariant
    (c.in_ok-push.ensures.items ∙ ap (λ e. c.loop-n.edges.items ++ e ∷ []) c.crossed.ensures)

pub returns : goal.returns
returns c = each-all (IsOwnEdge c.args.cell.now) c.args.tree.now c.loop-n.n _ c.loop-n.edges.items (rw c.count.ensures at c.loop-n-test.false) c.loop-n.invariant.adds

pub returns-in_err-push : goal.returns-in_err-push
returns-in_err-push c = IfOk-from_err _ _ c.from_residual.ensures.0
