use Rattle.std.proofs.lemmas.Result.{IfOk-weaker}
use Rattle.dpl_tree.proofs.tree.Tree.of_parts.Goals as goal

pub returns : goal.returns
returns c =
    IfOk-weaker c.of.result _ _
    (λ t h r k. (λ item. (c.in_ok-items.ensures r k).0 ((h r k).0 item), λ of_parts. (h r k).1 ((c.in_ok-items.ensures r k).1 of_parts)))
    c.of.ensures
