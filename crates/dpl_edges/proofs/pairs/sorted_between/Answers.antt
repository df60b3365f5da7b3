use Rattle.std.proofs.lemmas.List.Filters.{dedup_is}
use Rattle.std.proofs.lemmas.Result.{IfOk-from_err}
use Rattle.dpl_edges.proofs.Finding.{sorted-part}
use Rattle.dpl_edges.proofs.pairs.sorted_between.Goals as goal

pub returns : goal.returns
returns c = sorted-part c.args.low c.args.high c.args.found.now c.in_ok-edges.edges.items c.sort.new.items.items c.dedup.new.self.items c.in_ok-edges.ensures
    c.sort.ensures.permutation c.sort.ensures.sorted (dedup_is _ _ _ c.dedup.ensures.filtered)

pub returns-in_err-edges : goal.returns-in_err-edges
returns-in_err-edges c = IfOk-from_err _ _ c.from_residual.ensures.0
