use Rattle.dpl_zone.proofs.Sides.{two-sides}
use Rattle.dpl_zone.proofs.laws.zones_have_two_sides.Goals as goal

pub returns : goal.returns
returns c = two-sides
