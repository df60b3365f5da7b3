use Rattle.std.proofs.lemmas.Result.{IfOk-from_err}
use Rattle.dpl_flatten.proofs.LinkLaws.{AreTargets-step, AreTargets-whole, sized_all}
use Rattle.dpl_flatten.proofs.links.targets.Goals as goal

pub loop-element-preserved : goal.loop-element-preserved
loop-element-preserved c =
    AreTargets-step c.args.lib.now c.elements-element-items.result.now c.loop-element.element-index _ c.loop-element.found.items
    c.note_target.new.found.items c.loop-element-test.true c.in_ok-note_target.ensures c.loop-element.invariant

pub returns-clause-row : goal.returns-clause-row
returns-clause-row c =
    rw c.of.ensures (AreTargets-whole c.args.lib.now c.args.structure c.loop-element.element-index c.elements-element-items.result.now
    c.loop-element.found.items c.loop-element-test.false c.elements-element-items.ensures.same c.loop-element.invariant)

pub returns-clause-sized : goal.returns-clause-sized
returns-clause-sized c = sized_all c.args.lib.now c.args.structure c.elements-element-items.result.now c.elements-element-items.ensures.same c.elements-element-items.ensures.points

pub returns-in_err-note_target-clause-row : goal.returns-in_err-note_target-clause-row
returns-in_err-note_target-clause-row c = IfOk-from_err _ _ c.from_residual.ensures.0

pub returns-in_err-note_target-clause-sized : goal.returns-in_err-note_target-clause-sized
returns-in_err-note_target-clause-sized c = IfOk-from_err _ _ c.from_residual.ensures.0
