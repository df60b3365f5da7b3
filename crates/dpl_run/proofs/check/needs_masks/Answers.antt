use Rattle.dpl_run.proofs.check.needs_masks.Goals as goal

pub returns-in-Masks : goal.returns-in-Masks
returns-in-Masks c = rw c.in-Masks.is tt

pub returns-in-Conflict : goal.returns-in-Conflict
returns-in-Conflict c = rw c.in-Conflict.is (λ x. x)

pub returns-in-Fault : goal.returns-in-Fault
returns-in-Fault c = rw c.in-Fault.is (λ x. x)
