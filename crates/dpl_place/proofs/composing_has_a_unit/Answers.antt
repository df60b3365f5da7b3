use Rattle.dpl_place.proofs.Knowing.{unit_outer, unit_inner}
use Rattle.dpl_place.proofs.composing_has_a_unit.Goals as goal

pub returns : goal.returns
returns c = record { outer = unit_outer; inner = unit_inner }
