use Rattle.dpl_words.proofs.Ranges.{taken_there}
use Rattle.dpl_words.proofs.law.taken_has_its_values.Goals as goal

pub returns : goal.returns
returns c = taken_there
