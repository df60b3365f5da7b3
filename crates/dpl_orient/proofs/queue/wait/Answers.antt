use Rattle.dpl_orient.proofs.Queues.{waits-more, waits-new}
use Rattle.dpl_orient.proofs.queue.wait.Goals as goal

pub returns-in_ok-push-clause-kept : goal.returns-in_ok-push-clause-kept
returns-in_ok-push-clause-kept c = waits-more _ _ _ c.in_ok-push.ensures.permutation

pub returns-in_ok-push-clause-gains : goal.returns-in_ok-push-clause-gains
returns-in_ok-push-clause-gains c = λ g. waits-new _ _ _ c.in_ok-push.ensures.permutation
