use Rattle.std.proofs.lemmas.Result.{IfOk-weaker, IfOk-from_err}
use Rattle.dpl_flatten.proofs.LinkLaws.{roots_are}
use Rattle.dpl_flatten.proofs.top.roots.Goals as goal

pub find_sources-requires-clause-graph : goal.find_sources-requires-clause-graph
find_sources-requires-clause-graph c = rw c.as_slice.ensures.value c.in_ok-graph.ensures.known

pub returns : goal.returns
returns c = IfOk-weaker c.find_sources.result _ _ (λ found sources. roots_are c.args.lib.now c.in_ok-graph.graph.items found.items
    c.in_ok-graph.ensures.graph (rw c.as_slice.ensures.value at sources)) c.find_sources.ensures

pub returns-in_err-graph : goal.returns-in_err-graph
returns-in_err-graph c = IfOk-from_err _ _ c.from_residual.ensures.0
