use Rattle.dpl_deal.proofs.Moves.{below_one, took_one}
use Rattle.dpl_deal.proofs.grip.Grip.take.Goals as goal

pub returns-in-Tile-clause-some : goal.returns-in-Tile-clause-some
returns-in-Tile-clause-some g c = (took_one _ _ _ _ c.in-Tile.is c.next-item.ensures.took, below_one _ _ _ c.in-Tile.is c.next-item.ensures.below)
