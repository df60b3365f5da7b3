use Rattle.std.proofs.lemmas.List.Filters.{dedup_is}
use Rattle.std.proofs.lemmas.Result.{IfOk-from_err}
use Rattle.dpl_edges.proofs.Conflicts.{edges-are, edges-below}
use Rattle.dpl_edges.proofs.sorted_edges.Goals as goal

pub returns-clause-edges : goal.returns-clause-edges
returns-clause-edges c =
    edges-are c.args.plan.now.spacing c.args.plan.now.parts c.args.plan.now.owners c.args.cell.now c.in_ok-edges.edges.items
    c.sort.new.items.items c.dedup.new.self.items c.in_ok-edges.ensures.edges
    c.sort.ensures.permutation c.sort.ensures.sorted (dedup_is _ _ _ c.dedup.ensures.filtered)

pub returns-clause-below : goal.returns-clause-below
returns-clause-below c =
    edges-below c.args.plan.now.spacing c.args.plan.now.parts c.args.plan.now.owners c.args.cell.now c.in_ok-edges.edges.items
    c.sort.new.items.items c.dedup.new.self.items c.in_ok-edges.ensures.edges
    c.sort.ensures.permutation c.sort.ensures.sorted (dedup_is _ _ _ c.dedup.ensures.filtered)

pub returns-in_err-edges-clause-edges : goal.returns-in_err-edges-clause-edges
returns-in_err-edges-clause-edges c = IfOk-from_err _ _ c.from_residual.ensures.0

pub returns-in_err-edges-clause-below : goal.returns-in_err-edges-clause-below
returns-in_err-edges-clause-below c = IfOk-from_err _ _ c.from_residual.ensures.0
