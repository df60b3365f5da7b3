use Rattle.std.proofs.Common.{arith}
use Rattle.dpl_deal.proofs.Moves.{deals}
use Rattle.dpl_deal.proofs.hand.Hand.deal.Goals as goal

pub push_as-requires-clause-pushes : goal.push_as-requires-clause-pushes
push_as-requires-clause-pushes c = deals _ _ _ c.requires.dealing.0 c.requires.dealing.1 c.requires.dealing.2 (omega (arith, c.requires.rising))
