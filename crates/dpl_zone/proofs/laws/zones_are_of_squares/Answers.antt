use Rattle.dpl_zone.proofs.Sides.{of-squares}
use Rattle.dpl_zone.proofs.laws.zones_are_of_squares.Goals as goal

pub returns : goal.returns
returns c = of-squares
