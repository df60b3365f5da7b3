use Rattle.std.proofs.Common.{refl}
use Rattle.dpl_deal.proofs.Moves.{joins}
use Rattle.dpl_deal.proofs.hand.Hand.join.Goals as goal

pub absorb-requires-clause-rule : goal.absorb-requires-clause-rule
absorb-requires-clause-rule c = joins _ _ _ _ c.args.self.now.part refl
