use Rattle.dpl_feature.proofs.Orders.{AreFirstTops}
use Rattle.dpl_feature.proofs.meet.tops_of.Given as goal

abbrev pub invariant-loop-n : goal.invariant-loop-n
invariant-loop-n l = AreFirstTops l.rects l.n l.tops.items
