use Rattle.std.proofs.lemmas.Result.{IfOk-from_err}
use Rattle.dpl_flatten.proofs.LinkLaws.{graph_known}
use Rattle.dpl_flatten.proofs.ReachLaws.{ordered_of, acyclic_of}
use Rattle.dpl_flatten.proofs.faults.find_recursion.Goals as goal

pub find_order-requires-clause-graph : goal.find_order-requires-clause-graph
find_order-requires-clause-graph c = graph_known c.args.lib.now c.args.links.now.graph.now c.requires.links.graph_of

pub returns-in-Some-clause-order : goal.returns-in-Some-clause-order
returns-in-Some-clause-order c = ordered_of c.args.lib.now c.args.links.now.graph.now c.args.top c.args.links.now.marks.now
    c.in-Some.order.levels.items c.in-Some.order.vertices.items c.requires.links.graph_of c.requires.reached
    (rw c.in-Some.is at c.in_ok-order.ensures)

pub returns-in-Some-clause-whole : goal.returns-in-Some-clause-whole
returns-in-Some-clause-whole c = record {
  complete = c.requires.complete;
  acyclic = acyclic_of c.args.lib.now c.args.links.now.graph.now c.args.top c.args.links.now.marks.now c.in-Some.order.levels.items
      c.in-Some.order.vertices.items c.requires.links c.requires.reached
      (ordered_of c.args.lib.now c.args.links.now.graph.now c.args.top c.args.links.now.marks.now c.in-Some.order.levels.items
      c.in-Some.order.vertices.items c.requires.links.graph_of c.requires.reached (rw c.in-Some.is at c.in_ok-order.ensures));
}

pub returns-in_err-order-clause-whole : goal.returns-in_err-order-clause-whole
returns-in_err-order-clause-whole c = IfOk-from_err _ _ c.from_residual.ensures.0

pub returns-in_err-order-clause-order : goal.returns-in_err-order-clause-order
returns-in_err-order-clause-order c = IfOk-from_err _ _ c.from_residual.ensures.0
