use Rattle.std.proofs.Common.{length, ap}
use Rattle.std.proofs.lemmas.Result.{IfOk-weaker, IfOk-from_err}
use Rattle.dpl_edges.proofs.Finding.{join-owned, join-solid, sorted-conflicts}
use Rattle.dpl_edges.proofs.pairs.all_conflicts_by.Goals as goal

pub found_edges_by-requires-clause-owned : goal.found_edges_by-requires-clause-owned
found_edges_by-requires-clause-owned g c κs l = join-owned c.args.parts.now c.args.owners.now c.args.spacing c.in_ok-join.join c.requires.owners c.in_ok-join.ensures

pub found_edges_by-requires-clause-solid : goal.found_edges_by-requires-clause-solid
found_edges_by-requires-clause-solid g c κs l = join-solid c.args.parts.now c.args.spacing c.in_ok-join.join c.in_ok-join.ensures

pub returns : goal.returns
returns g c =
    record {
      edges = IfOk-weaker c.sorted_between_by.result _ _ (λ v sorted.
          sorted-conflicts c.args.parts.now c.args.owners.now c.args.spacing c.in_ok-join.join c.requires.corner c.in_ok-join.ensures c.in_ok-found.found.items v.items _ c.in_ok-found.ensures
          (ap length c.items.ensures.value) sorted) (rw c.deref.ensures.value at c.sorted_between_by.ensures);
    }

pub returns-in_err-join : goal.returns-in_err-join
returns-in_err-join g c = record { edges = IfOk-from_err _ _ c.from_residual.ensures.0 }

pub returns-in_err-found : goal.returns-in_err-found
returns-in_err-found g c = record { edges = IfOk-from_err _ _ c.from_residual-in_err-found.ensures.0 }
