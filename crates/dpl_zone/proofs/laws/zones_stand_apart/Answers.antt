use Rattle.dpl_zone.proofs.Sides.{stand-apart}
use Rattle.dpl_zone.proofs.laws.zones_stand_apart.Goals as goal

pub returns : goal.returns
returns c = stand-apart
