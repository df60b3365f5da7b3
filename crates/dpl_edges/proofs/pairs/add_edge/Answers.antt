use Rattle.std.proofs.Common.{refl}
use Rattle.std.proofs.lemmas.Result.{IfOk-from_err}
use Rattle.dpl_edges.proofs.Finding.{foes-again, foes-push}
use Rattle.dpl_edges.proofs.pairs.add_edge.Goals as goal

pub returns-then-is_last : goal.returns-then-is_last
returns-then-is_last c = foes-again c.args.spacing c.args.owners.now c.args.items.now c.args.pair.now c.args.found.now.items _ c.ends-edge.ensures
    (rw c.deref.ensures.value at (c.is_last.ensures c.if-is_last.true))

pub returns : goal.returns
returns c = foes-push c.args.spacing c.args.owners.now c.args.items.now c.args.pair.now c.args.found.now.items _ _ (c.if-not-are_foes.ensures.0 refl) c.ends-edge.ensures
    c.in_ok-push.ensures.items

pub returns-in_err-push : goal.returns-in_err-push
returns-in_err-push c = IfOk-from_err _ _ c.from_residual.ensures.0
