use Rattle.dpl_session.proofs.Editing.{one_after_another}
use Rattle.dpl_session.proofs.session.edits_one_after_another.Goals as goal

pub returns : goal.returns
returns c = one_after_another
