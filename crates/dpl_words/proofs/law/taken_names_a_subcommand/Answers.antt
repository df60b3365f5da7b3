use Rattle.dpl_words.proofs.Taken.{met}
use Rattle.dpl_words.proofs.law.taken_names_a_subcommand.Goals as goal

pub returns : goal.returns
returns c = met
