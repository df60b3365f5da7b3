use Rattle.std.proofs.lemmas.Result.{IfOk-from_err}
use Rattle.std.proofs.Common.{[], ap, map, ◌∙◌}
use Rattle.std.proofs.lemmas.List.{take_all}
use Rattle.dpl_spec_elements.specs.Motions.{image}
use Rattle.dpl_walk.proofs.ListLaws.{pushed}
use Rattle.dpl_walk.proofs.gathered.moved.Goals as goal

pub returns-in_err-images : goal.returns-in_err-images
returns-in_err-images c = IfOk-from_err _ _ c.from_residual.ensures.0

pub returns-in_err-push : goal.returns-in_err-push
returns-in_err-push c = IfOk-from_err _ _ c.from_residual-in_err-push.ensures.0

pub loop-point-preserved : goal.loop-point-preserved
loop-point-preserved c =
    pushed (image c.args.place.now) c.args.points.now c.loop-point.point-index _ [] c.loop-point.images.items _ c.loop-point-test.true
    c.loop-point.invariant (rw c.apply.ensures at c.in_ok-push.ensures.items)

pub returns : goal.returns
returns c = c.loop-point.invariant ∙ ap (map (image c.args.place.now)) (take_all _ _ c.loop-point-test.false)
