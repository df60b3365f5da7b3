use Rattle.std.proofs.Common.{arith}
use Rattle.dpl_feature.proofs.Orders.{first-all, first-more, first-none}
use Rattle.dpl_feature.proofs.meet.tops_of.Goals as goal

pub loop-n-init : goal.loop-n-init
loop-n-init c = first-none c.args.rects.now _ c.in_ok-tops.ensures.items

pub loop-n-preserved : goal.loop-n-preserved
loop-n-preserved c =
    first-more c.args.rects.now c.loop-n.n c.in_ok-top.top c.loop-n.tops.items _ c.in_ok-push.ensures.items c.in_ok-top.ensures.top c.in_ok-top.ensures.number c.loop-n.invariant

pub returns : goal.returns
returns c = first-all c.args.rects.now c.loop-n.n c.loop-n.tops.items (omega arith) c.loop-n.invariant
