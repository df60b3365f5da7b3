use Rattle.std.proofs.Common.{arith}
use Rattle.std.proofs.lemmas.Result.{IfOk-from_err}
use Rattle.dpl_flatten.proofs.ReachLaws.{linked_of}
use Rattle.dpl_flatten.proofs.draw.Goals as goal

pub reach-requires-clause-graph : goal.reach-requires-clause-graph
reach-requires-clause-graph c = rw c.as_slice.ensures.value c.in_ok-graph.ensures.known

pub find_faults-requires-clause-links : goal.find_faults-requires-clause-links
find_faults-requires-clause-links c =
    rw (c.as_slice-2.ensures.value, c.as_slice-3.ensures.value)
    (linked_of c.args.lib.now c.in_ok-graph.graph.items c.args.top c.in_ok-marks.marks.items
    c.in_ok-graph.ensures.graph
    (rw c.as_slice.ensures.value at c.in_ok-marks.ensures))

pub draw_all-requires-clause-links : goal.draw_all-requires-clause-links
draw_all-requires-clause-links c =
    rw (c.as_slice-2.ensures.value, c.as_slice-3.ensures.value)
    (linked_of c.args.lib.now c.in_ok-graph.graph.items c.args.top c.in_ok-marks.marks.items
    c.in_ok-graph.ensures.graph
    (rw c.as_slice.ensures.value at c.in_ok-marks.ensures))

pub draw_all-requires-clause-few : goal.draw_all-requires-clause-few
draw_all-requires-clause-few c = omega (arith, c.in_ok-graph.ensures.graph.each, c.in_ok-graph.ensures.few)

pub returns-in_err-graph-clause-drawing : goal.returns-in_err-graph-clause-drawing
returns-in_err-graph-clause-drawing c = IfOk-from_err _ _ c.from_residual.ensures.0

pub returns-in_err-graph-clause-trimmed : goal.returns-in_err-graph-clause-trimmed
returns-in_err-graph-clause-trimmed c = IfOk-from_err _ _ c.from_residual.ensures.0

pub returns-in_err-marks-clause-drawing : goal.returns-in_err-marks-clause-drawing
returns-in_err-marks-clause-drawing c = IfOk-from_err _ _ c.from_residual-in_err-marks.ensures.0

pub returns-in_err-marks-clause-trimmed : goal.returns-in_err-marks-clause-trimmed
returns-in_err-marks-clause-trimmed c = IfOk-from_err _ _ c.from_residual-in_err-marks.ensures.0

pub returns-in_err-survey-clause-drawing : goal.returns-in_err-survey-clause-drawing
returns-in_err-survey-clause-drawing c = IfOk-from_err _ _ c.from_residual-in_err-survey.ensures.0

pub returns-in_err-survey-clause-trimmed : goal.returns-in_err-survey-clause-trimmed
returns-in_err-survey-clause-trimmed c = IfOk-from_err _ _ c.from_residual-in_err-survey.ensures.0

pub returns-in_err-draw_all-clause-drawing : goal.returns-in_err-draw_all-clause-drawing
returns-in_err-draw_all-clause-drawing c = IfOk-from_err _ _ c.from_residual-in_err-draw_all.ensures.0

pub returns-in_err-draw_all-clause-trimmed : goal.returns-in_err-draw_all-clause-trimmed
returns-in_err-draw_all-clause-trimmed c = IfOk-from_err _ _ c.from_residual-in_err-draw_all.ensures.0

pub reach-requires-clause-from : goal.reach-requires-clause-from
reach-requires-clause-from c = rw c.as_slice.ensures.value (omega (arith, c.requires, c.in_ok-graph.ensures.graph.each))

pub find_faults-requires-clause-reached : goal.find_faults-requires-clause-reached
find_faults-requires-clause-reached c =
    rw (c.as_slice-2.ensures.value, c.as_slice-3.ensures.value) (rw c.as_slice.ensures.value at c.in_ok-marks.ensures)

pub draw_all-requires-clause-reached : goal.draw_all-requires-clause-reached
draw_all-requires-clause-reached c =
    rw (c.as_slice-2.ensures.value, c.as_slice-3.ensures.value) (rw c.as_slice.ensures.value at c.in_ok-marks.ensures)

pub draw_all-requires-clause-small : goal.draw_all-requires-clause-small
draw_all-requires-clause-small c = c.in_ok-survey.ensures.small

pub returns-clause-drawing : goal.returns-clause-drawing
returns-clause-drawing c = c.in_ok-draw_all.ensures.drawing

pub returns-clause-trimmed : goal.returns-clause-trimmed
returns-clause-trimmed c = c.in_ok-draw_all.ensures.trimmed
