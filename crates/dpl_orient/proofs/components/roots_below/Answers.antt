use Rattle.std.proofs.lemmas.Result.{IfOk-weaker}
use Rattle.dpl_orient.proofs.Roots.{rooted-from-rows}
use Rattle.dpl_orient.proofs.components.roots_below.Goals as goal

pub returns : goal.returns
returns c = IfOk-weaker c.roots_of_rows.result _ _
    (λ roots h edges sums. rooted-from-rows edges c.in-Stars.rows _ c.args.n roots.items c.items.ensures.value h (rw c.in-Stars.is at sums))
    c.roots_of_rows.ensures
