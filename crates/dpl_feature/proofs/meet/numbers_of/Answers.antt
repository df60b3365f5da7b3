use Rattle.std.proofs.Common.{arith}
use Rattle.dpl_feature.proofs.Orders.{numbers-all, numbers-more}
use Rattle.dpl_feature.proofs.meet.numbers_of.Goals as goal

pub loop-top-init : goal.loop-top-init
loop-top-init c = c.in_ok-numbers.ensures.items

pub loop-top-preserved : goal.loop-top-preserved
loop-top-preserved c = numbers-more c.args.tops.now c.loop-top.top-index _ c.loop-top.numbers.items _ c.in_ok-push.ensures.items c.loop-top-test.true c.loop-top.invariant

pub returns : goal.returns
returns c = numbers-all c.args.tops.now c.loop-top.top-index c.loop-top.numbers.items (omega arith) c.loop-top.invariant
