use Rattle.std.proofs.Common.{inl}
use Rattle.std.proofs.lemmas.Result.{IfOk-weaker}
use Rattle.dpl_edges.proofs.Conflicts.{whole-edges}
use Rattle.dpl_edges.proofs.all_edges.Goals as goal

pub sorted_edges-requires-clause-meetings : goal.sorted_edges-requires-clause-meetings
sorted_edges-requires-clause-meetings c =
    let h = c.meetings.ensures in
    record { apart = h.apart; all = λ i j p q apart a b near here. h.all i j p q apart a b near (inl tt) }

pub returns-clause-edges : goal.returns-clause-edges
returns-clause-edges c = IfOk-weaker c.sorted_edges.result _ _ (λ edges are. whole-edges c.args.plan.now.spacing c.args.plan.now.parts
    c.args.plan.now.owners c.whole-cell.result edges.items c.whole-cell.ensures.whole c.sorted_edges.ensures.parts are)
    c.sorted_edges.ensures.edges
