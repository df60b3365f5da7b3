use Rattle.dpl_deal.proofs.Moves.{below_one, end_one, took_one}
use Rattle.dpl_deal.proofs.hand.Hand.pop.Goals as goal

pub returns-in-End-clause-notes : goal.returns-in-End-clause-notes
returns-in-End-clause-notes c = λ was now. end_one _ _ _ c.in-End.is c.pop_item.ensures.took

pub returns-in-Tile-clause-some : goal.returns-in-Tile-clause-some
returns-in-Tile-clause-some c = (took_one _ _ _ _ c.in-Tile.is c.pop_item.ensures.took, below_one _ _ _ c.in-Tile.is c.pop_item.ensures.below)
