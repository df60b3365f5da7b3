use Rattle.dpl_deal.proofs.Moves.{seals}
use Rattle.dpl_deal.proofs.hand.Hand.arm.Goals as goal

pub push_as-requires-clause-pushes : goal.push_as-requires-clause-pushes
push_as-requires-clause-pushes c = seals _ _ c.args.self.now.part
