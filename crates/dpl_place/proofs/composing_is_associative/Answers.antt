use Rattle.dpl_place.proofs.Knowing.{associative}
use Rattle.dpl_place.proofs.composing_is_associative.Goals as goal

pub returns : goal.returns
returns c = associative
