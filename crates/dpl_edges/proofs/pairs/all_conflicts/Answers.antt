use Rattle.std.proofs.Common.{length, ap}
use Rattle.std.proofs.lemmas.Result.{IfOk-weaker, IfOk-from_err}
use Rattle.dpl_edges.proofs.Finding.{edges-of_one, join-owned, join-solid, sorted-conflicts}
use Rattle.dpl_edges.proofs.pairs.all_conflicts.Goals as goal

pub dealt_edges-requires-clause-owned : goal.dealt_edges-requires-clause-owned
dealt_edges-requires-clause-owned c = join-owned c.args.parts.now c.args.owners.now c.args.spacing c.in_ok-join.join c.requires.owners c.in_ok-join.ensures

pub dealt_edges-requires-clause-solid : goal.dealt_edges-requires-clause-solid
dealt_edges-requires-clause-solid c = join-solid c.args.parts.now c.args.spacing c.in_ok-join.join c.in_ok-join.ensures

pub returns : goal.returns
returns c =
    let found = edges-of_one c.args.spacing c.args.owners.now c.in_ok-join.join c.in_ok-found.found.items c.in_ok-found.ensures in
    record {
      edges = IfOk-weaker c.sorted_between.result _ _ (λ v sorted.
          sorted-conflicts c.args.parts.now c.args.owners.now c.args.spacing c.in_ok-join.join c.requires.corner c.in_ok-join.ensures c.in_ok-found.found.items v.items _ found
          (ap length c.items.ensures.value) sorted) (rw c.deref.ensures.value at c.sorted_between.ensures);
    }

pub returns-in_err-join : goal.returns-in_err-join
returns-in_err-join c = record { edges = IfOk-from_err _ _ c.from_residual.ensures.0 }

pub returns-in_err-found : goal.returns-in_err-found
returns-in_err-found c = record { edges = IfOk-from_err _ _ c.from_residual-in_err-found.ensures.0 }
