use Rattle.dpl_law_session.proofs.Stillness.{covered_still, same_still}
use Rattle.dpl_law_session.proofs.no_change_takes_no_step.Goals as goal

pub returns : goal.returns
returns c = record { same = same_still; covered = covered_still }
