use Rattle.std.proofs.Common.{arith}
use Rattle.std.proofs.lemmas.Result.{IfOk-from_err}
use Rattle.dpl_flatten.proofs.LinkLaws.{AreRows-more, AreRows-all, graph_known}
use Rattle.dpl_flatten.specs.Links.{IsGraphOf}
use Rattle.dpl_flatten.proofs.links.graph_of.Goals as goal

pub loop-structure-preserved : goal.loop-structure-preserved
loop-structure-preserved c = AreRows-more c.args.lib.now c.loop-structure.structure c.loop-structure.graph.items c.push.new.self.items
    c.in_ok-row.row c.in_ok-push.ensures.items c.in_ok-row.ensures.row c.in_ok-row.ensures.sized c.loop-structure.invariant

all_rows : (c : goal.After-loop-structure) → IsGraphOf c.args.lib.now c.loop-structure.graph.items
all_rows c = AreRows-all c.args.lib.now c.loop-structure.structure c.loop-structure.graph.items (omega (arith, c.count-structure-end.ensures.value)) c.loop-structure.invariant

pub returns-clause-graph : goal.returns-clause-graph
returns-clause-graph c = all_rows c

pub returns-clause-known : goal.returns-clause-known
returns-clause-known c = graph_known c.args.lib.now c.loop-structure.graph.items (all_rows c)

pub returns-in_err-row-clause-graph : goal.returns-in_err-row-clause-graph
returns-in_err-row-clause-graph c = IfOk-from_err _ _ c.from_residual.ensures.0

pub returns-in_err-row-clause-known : goal.returns-in_err-row-clause-known
returns-in_err-row-clause-known c = IfOk-from_err _ _ c.from_residual.ensures.0

pub returns-in_err-row-clause-few : goal.returns-in_err-row-clause-few
returns-in_err-row-clause-few c = IfOk-from_err _ _ c.from_residual.ensures.0

pub returns-in_err-push-clause-graph : goal.returns-in_err-push-clause-graph
returns-in_err-push-clause-graph c = IfOk-from_err _ _ c.from_residual-in_err-push.ensures.0

pub returns-in_err-push-clause-known : goal.returns-in_err-push-clause-known
returns-in_err-push-clause-known c = IfOk-from_err _ _ c.from_residual-in_err-push.ensures.0

pub returns-in_err-push-clause-few : goal.returns-in_err-push-clause-few
returns-in_err-push-clause-few c = IfOk-from_err _ _ c.from_residual-in_err-push.ensures.0
