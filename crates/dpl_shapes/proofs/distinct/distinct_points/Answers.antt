use Rattle.std.proofs.Common.{[]}
use Rattle.std.proofs.lemmas.Result.{IfOk-from_err}
use Rattle.dpl_shapes.proofs.Keeping.{distinct-done, keeps-on}
use Rattle.dpl_shapes.proofs.distinct.distinct_points.Goals as goal

pub returns : goal.returns
returns c = distinct-done c.args.points.now _ _ _ _ _ c.in-len1-up.len_at_least c.new-kept.ensures.items c.in_ok-push.ensures.items
    c.loop-point-test.false (c.loop-point.invariant [])

pub returns-in_err-push : goal.returns-in_err-push
returns-in_err-push c = IfOk-from_err _ _ c.from_residual.ensures.0

pub returns-in_err-last : goal.returns-in_err-last
returns-in_err-last c = IfOk-from_err _ _ c.from_residual-in_err-last.ensures.0

pub loop-point-preserved : goal.loop-point-preserved
loop-point-preserved c = keeps-on _ c.loop-point.kept.items _ _ c.loop-point.last _ _ c.loop-point.point-index _ c.loop-point-test.true
    c.loop-point.invariant c.in_ok-last.ensures
