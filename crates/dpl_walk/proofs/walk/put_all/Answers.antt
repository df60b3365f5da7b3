use Rattle.std.proofs.lemmas.Result.{IfOk-from_err}
use Rattle.std.proofs.Common.{◌++◌, ap, map, ◌∙◌}
use Rattle.std.proofs.lemmas.List.{take_all}
use Rattle.dpl_walk.specs.Walk.{frame_of}
use Rattle.dpl_walk.proofs.ListLaws.{pushed}
use Rattle.dpl_walk.proofs.walk.put_all.Goals as goal

pub returns-in_err-push : goal.returns-in_err-push
returns-in_err-push c = IfOk-from_err _ _ c.from_residual.ensures.0

pub loop-array-preserved : goal.loop-array-preserved
loop-array-preserved c =
    pushed (frame_of c.args.place.now) c.args.copies.now c.loop-array.array-index _ c.args.stack.now.items c.loop-array.stack.items _
    c.loop-array-test.true c.loop-array.invariant c.in_ok-push.ensures.items

pub returns : goal.returns
returns c = c.loop-array.invariant
    ∙ ap (λ cs. c.args.stack.now.items ++ map (frame_of c.args.place.now) cs) (take_all _ _ c.loop-array-test.false)
