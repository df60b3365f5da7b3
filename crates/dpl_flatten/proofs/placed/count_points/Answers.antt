use Rattle.std.proofs.lemmas.Result.{IfOk-from_err}
use Rattle.std.proofs.Common.{arith}
use Rattle.dpl_flatten.proofs.ReachLaws.{linked_of}
use Rattle.dpl_flatten.proofs.placed.count_points.Goals as goal

pub reach-requires-clause-graph : goal.reach-requires-clause-graph
reach-requires-clause-graph c = rw c.as_slice.ensures.value c.in_ok-graph.ensures.known

pub find_missing-requires-clause-links : goal.find_missing-requires-clause-links
find_missing-requires-clause-links c =
    rw (c.as_slice-2.ensures.value, c.as_slice-3.ensures.value)
    (linked_of c.args.lib.now c.in_ok-graph.graph.items c.args.top c.in_ok-marks.marks.items
    c.in_ok-graph.ensures.graph
    (rw c.as_slice.ensures.value at c.in_ok-marks.ensures))

pub find_recursion-requires-clause-links : goal.find_recursion-requires-clause-links
find_recursion-requires-clause-links c =
    rw (c.as_slice-2.ensures.value, c.as_slice-3.ensures.value)
    (linked_of c.args.lib.now c.in_ok-graph.graph.items c.args.top c.in_ok-marks.marks.items
    c.in_ok-graph.ensures.graph
    (rw c.as_slice.ensures.value at c.in_ok-marks.ensures))

pub counts_by-requires-clause-links : goal.counts_by-requires-clause-links
counts_by-requires-clause-links c =
    rw (c.as_slice-2.ensures.value, c.as_slice-3.ensures.value)
    (linked_of c.args.lib.now c.in_ok-graph.graph.items c.args.top c.in_ok-marks.marks.items
    c.in_ok-graph.ensures.graph
    (rw c.as_slice.ensures.value at c.in_ok-marks.ensures))

pub returns-in_err-graph-clause-counts : goal.returns-in_err-graph-clause-counts
returns-in_err-graph-clause-counts c = IfOk-from_err _ _ c.from_residual.ensures.0

pub returns-in_err-graph-clause-whole : goal.returns-in_err-graph-clause-whole
returns-in_err-graph-clause-whole c = IfOk-from_err _ _ c.from_residual.ensures.0

pub returns-in_err-marks-clause-counts : goal.returns-in_err-marks-clause-counts
returns-in_err-marks-clause-counts c = IfOk-from_err _ _ c.from_residual-in_err-marks.ensures.0

pub returns-in_err-marks-clause-whole : goal.returns-in_err-marks-clause-whole
returns-in_err-marks-clause-whole c = IfOk-from_err _ _ c.from_residual-in_err-marks.ensures.0

pub returns-in_err-find_missing-clause-counts : goal.returns-in_err-find_missing-clause-counts
returns-in_err-find_missing-clause-counts c = IfOk-from_err _ _ c.from_residual-in_err-find_missing.ensures.0

pub returns-in_err-find_missing-clause-whole : goal.returns-in_err-find_missing-clause-whole
returns-in_err-find_missing-clause-whole c = IfOk-from_err _ _ c.from_residual-in_err-find_missing.ensures.0

pub returns-in_err-order-clause-counts : goal.returns-in_err-order-clause-counts
returns-in_err-order-clause-counts c = IfOk-from_err _ _ c.from_residual-in_err-order.ensures.0

pub returns-in_err-order-clause-whole : goal.returns-in_err-order-clause-whole
returns-in_err-order-clause-whole c = IfOk-from_err _ _ c.from_residual-in_err-order.ensures.0

pub returns-in_err-counts_by-clause-counts : goal.returns-in_err-counts_by-clause-counts
returns-in_err-counts_by-clause-counts c = IfOk-from_err _ _ c.from_residual-in_err-counts_by.ensures.0

pub returns-in_err-counts_by-clause-whole : goal.returns-in_err-counts_by-clause-whole
returns-in_err-counts_by-clause-whole c = IfOk-from_err _ _ c.from_residual-in_err-counts_by.ensures.0

pub reach-requires-clause-from : goal.reach-requires-clause-from
reach-requires-clause-from c = rw c.as_slice.ensures.value (omega (arith, c.requires, c.in_ok-graph.ensures.graph.each))

pub find_missing-requires-clause-reached : goal.find_missing-requires-clause-reached
find_missing-requires-clause-reached c =
    rw (c.as_slice-2.ensures.value, c.as_slice-3.ensures.value) (rw c.as_slice.ensures.value at c.in_ok-marks.ensures)

pub find_recursion-requires-clause-reached : goal.find_recursion-requires-clause-reached
find_recursion-requires-clause-reached c =
    rw (c.as_slice-2.ensures.value, c.as_slice-3.ensures.value) (rw c.as_slice.ensures.value at c.in_ok-marks.ensures)

pub find_recursion-requires-clause-complete : goal.find_recursion-requires-clause-complete
find_recursion-requires-clause-complete c = c.in_ok-find_missing.ensures.complete

pub counts_by-requires-clause-reached : goal.counts_by-requires-clause-reached
counts_by-requires-clause-reached c =
    rw (c.as_slice-2.ensures.value, c.as_slice-3.ensures.value) (rw c.as_slice.ensures.value at c.in_ok-marks.ensures)

pub counts_by-requires-clause-order : goal.counts_by-requires-clause-order
counts_by-requires-clause-order c = c.in_ok-order.ensures.order

pub returns-clause-counts : goal.returns-clause-counts
returns-clause-counts c = c.in_ok-counts_by.ensures

pub returns-clause-whole : goal.returns-clause-whole
returns-clause-whole c = c.in_ok-order.ensures.whole
