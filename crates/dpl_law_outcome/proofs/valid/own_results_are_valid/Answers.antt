use Rattle.dpl_law_outcome.proofs.Own.{painted-valid, clash-valid}
use Rattle.dpl_law_outcome.proofs.valid.own_results_are_valid.Goals as goal

pub returns : goal.returns
returns c = record { painted = painted-valid; clash = clash-valid }
