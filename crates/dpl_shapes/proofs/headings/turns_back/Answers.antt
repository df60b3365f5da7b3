use Rattle.std.proofs.Common.{arith}
use Rattle.dpl_shapes.proofs.Straightness.{turn-found, goes-more}
use Rattle.dpl_shapes.proofs.headings.turns_back.Goals as goal

pub returns-then-goes_back : goal.returns-then-goes_back
returns-then-goes_back c = turn-found c.args.points.now c.loop-i.i _ _ _ _ _ _ (omega arith) c.loop-i-test.true c.heading_to-before.ensures
    c.heading_to-after.ensures c.if-goes_back.ensures

pub loop-i-preserved : goal.loop-i-preserved
loop-i-preserved c = goes-more c.args.points.now c.loop-i.i _ _ _ _ _ _ (omega arith) c.loop-i-test.true c.heading_to-before.ensures
    c.heading_to-after.ensures c.if-goes_back.ensures c.loop-i.invariant
