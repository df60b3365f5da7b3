use Rattle.dpl_law_outcome.proofs.OwnFiles.{own-files, own-runs, split-decided}
use Rattle.dpl_law_outcome.proofs.valid.own_files_are_valid.Goals as goal

pub returns : goal.returns
returns c = record { decided = split-decided; files = own-files; words = own-runs }
