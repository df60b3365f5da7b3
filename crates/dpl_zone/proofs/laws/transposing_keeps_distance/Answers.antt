use Rattle.dpl_zone.proofs.Sides.{squares-transposed, near-transposed}
use Rattle.dpl_zone.proofs.laws.transposing_keeps_distance.Goals as goal

pub returns : goal.returns
returns c = record { squares = squares-transposed; sets = near-transposed }
