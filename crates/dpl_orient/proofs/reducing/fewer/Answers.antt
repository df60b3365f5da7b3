use Rattle.std.proofs.lemmas.Result.{IfOk-weaker}
use Rattle.dpl_orient.proofs.Leading.{fewer-no-more, fewer-of-graph}
use Rattle.dpl_orient.proofs.reducing.fewer.Goals as goal

pub returns-clause-graph : goal.returns-clause-graph
returns-clause-graph c =
    IfOk-weaker c.fewer_rows.result _ _
    (λ last h edges sums. fewer-of-graph edges c.in-Stars.rows c.args.n c.args.sides.now c.args.fixed c.args.colours.now last
    (rw c.in-Stars.is at c.requires.colours)
    (rw c.items.ensures.value at h) (rw c.in-Stars.is at sums))
    c.fewer_rows.ensures

pub returns-clause-no_more : goal.returns-clause-no_more
returns-clause-no_more c =
    IfOk-weaker c.fewer_rows.result _ _
    (λ last h. fewer-no-more _ c.args.n c.args.sides.now c.args.fixed c.args.colours.now last h)
    c.fewer_rows.ensures
