use Rattle.std.proofs.lemmas.Result.{IfOk-from_err}
use Rattle.dpl_walk.proofs.ShortLaws.{short_read}
use Rattle.dpl_walk.proofs.ways.all_shortened.Goals as goal

pub loop-array-preserved : goal.loop-array-preserved
loop-array-preserved c = short_read c.args.ways.now c.args.copies.now c.loop-array.array-index _ c.index-ways-array.result
    c.shortened.result c.loop-array.found.items c.push.new.self.items c.loop-array-test.true c.in_ok-push.ensures.items
    (c.requires.known c.loop-array.array-index _ c.loop-array-test.true) c.index-ways-array.is c.shortened.ensures c.loop-array.invariant

pub returns-in_err-push : goal.returns-in_err-push
returns-in_err-push c = IfOk-from_err _ _ c.from_residual.ensures.0
