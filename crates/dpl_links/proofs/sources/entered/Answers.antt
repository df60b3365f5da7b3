use Rattle.std.proofs.Common.{◌<◌, length, get_or, arith}
use Rattle.std.proofs.lemmas.List.Elements.{Contains-get_or}
use Rattle.std.proofs.lemmas.Result.{IfOk-from_err}
use Rattle.dpl_links.specs.Graph.{targets_at}
use Rattle.dpl_links.proofs.SpreadLaws.{targets_are}
use Rattle.dpl_links.proofs.SourceLaws.{entered_more, entered_all, fresh_length}
use Rattle.dpl_links.proofs.sources.entered.Goals as goal

pub mark_all-requires : goal.mark_all-requires
mark_all-requires c =
    let v = c.loop-row.row-index in
    let ts = targets_at c.args.graph.now v in
    let are = targets_are c.args.graph.now v _ _ c.loop-row-test.true c.items.ensures c.row-item.is in
    λ k d h.
    let i : k < length ts = rw (← are) h in
    let lt = c.requires v (get_or ts k d) (Contains-get_or ts k d i) in
    rw are (omega (arith, lt, c.loop-row.invariant.each, fresh_length c.args.graph.now _ c.in_ok-marks.ensures))

pub loop-row-preserved : goal.loop-row-preserved
loop-row-preserved c =
    let v = c.loop-row.row-index in
    let are = targets_are c.args.graph.now v _ _ c.loop-row-test.true c.items.ensures c.row-item.is in
    entered_more c.args.graph.now v _ _ _ _ _ _ _ are c.loop-row.invariant c.in_ok-mark_all.ensures

pub returns-clause-marks : goal.returns-clause-marks
returns-clause-marks c = entered_all c.args.graph.now c.loop-row.row-index c.in_ok-marks.marks.items c.loop-row.marks.items _ _
    c.in_ok-marks.ensures c.loop-row-test.false c.loop-row.invariant

pub returns-in_err-marks-clause-each : goal.returns-in_err-marks-clause-each
returns-in_err-marks-clause-each c = IfOk-from_err _ _ c.from_residual.ensures.0

pub returns-in_err-marks-clause-marks : goal.returns-in_err-marks-clause-marks
returns-in_err-marks-clause-marks c = IfOk-from_err _ _ c.from_residual.ensures.0

pub returns-in_err-mark_all-clause-each : goal.returns-in_err-mark_all-clause-each
returns-in_err-mark_all-clause-each c = IfOk-from_err _ _ c.from_residual-in_err-mark_all.ensures.0

pub returns-in_err-mark_all-clause-marks : goal.returns-in_err-mark_all-clause-marks
returns-in_err-mark_all-clause-marks c = IfOk-from_err _ _ c.from_residual-in_err-mark_all.ensures.0
