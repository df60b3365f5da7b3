use Rattle.std.proofs.Common.{◌<◌, ◌≤◌, length}
use Rattle.std.proofs.lemmas.Result.{IfOk-from_err}
use Rattle.dpl_flatten.proofs.LoopLaws.{added_none, added_more, added_all}
use Rattle.dpl_flatten.proofs.loops.loops_of.Goals as goal

pub loop-rect-init : goal.loop-rect-init
loop-rect-init c = added_none c.args.shapes.loops.items

pub loop-rect-preserved : goal.loop-rect-preserved
loop-rect-preserved c =
    let here : c.loop-rect.rect-index < length c.args.shapes.rects.items = rw c.deref-rect-items.ensures.value at c.loop-rect-test.true in
    rw c.in_ok-push.ensures.items
    (added_more c.args.shapes.rects.items c.loop-rect.rect-index _ c.in_ok-loop_of.field-0 c.args.shapes.loops.items c.loop-rect.loops.items
    here c.loop-rect.invariant (rw c.deref-rect-items.ensures.value at c.in_ok-loop_of.ensures))

pub returns : goal.returns
returns c =
    let all : length c.args.shapes.rects.items ≤ c.loop-rect.rect-index = rw c.deref-rect-items.ensures.value at c.loop-rect-test.false in
    added_all c.args.shapes.rects.items c.loop-rect.rect-index c.args.shapes.loops.items c.loop-rect.loops.items all c.loop-rect.invariant

pub returns-in_err-loop_of : goal.returns-in_err-loop_of
returns-in_err-loop_of c = IfOk-from_err _ _ c.from_residual.ensures.0

pub returns-in_err-push : goal.returns-in_err-push
returns-in_err-push c = IfOk-from_err _ _ c.from_residual-in_err-push.ensures.0
