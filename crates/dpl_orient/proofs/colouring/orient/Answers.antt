use Rattle.std.proofs.lemmas.Result.{IfOk-weaker}
use Rattle.dpl_orient.proofs.Roots.{coloured-from-rows}
use Rattle.dpl_orient.proofs.colouring.orient.Goals as goal

pub returns-clause-graph : goal.returns-clause-graph
returns-clause-graph c =
    IfOk-weaker c.orient_rows.result _ _
    (λ colours h edges sums. coloured-from-rows edges c.in-Stars.rows _ c.args.n c.args.sides.now _ c.items.ensures.value h (rw c.in-Stars.is at sums))
    c.orient_rows.ensures
