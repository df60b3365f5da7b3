use Rattle.dpl_order.proofs.JoinLaws.{slabs-from_joined}
use Rattle.dpl_order.proofs.join.slabs_of.Goals as goal

pub returns : goal.returns
returns c = slabs-from_joined _ _ _ c.join_pieces-slabs.ensures (rw c.shrink_to_fit.ensures.items at c.sort_by_corner.ensures.same) c.sort_by_corner.ensures.rise
