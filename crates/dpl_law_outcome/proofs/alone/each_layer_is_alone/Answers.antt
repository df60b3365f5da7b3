use Rattle.dpl_law_outcome.proofs.Isolated.{alone, batches-one, files-one}
use Rattle.dpl_law_outcome.proofs.Left.{left}
use Rattle.dpl_law_outcome.proofs.alone.each_layer_is_alone.Goals as goal

pub returns : goal.returns
returns c = record { alone = alone; left = left; files = files-one; batches = batches-one }
