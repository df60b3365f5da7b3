use Rattle.dpl_deal.proofs.Moves.{totals}
use Rattle.dpl_deal.proofs.hand.Hand.learn.Goals as goal

pub len_as-requires : goal.len_as-requires
len_as-requires c = totals _ _ c.requires.parts c.requires.ended
