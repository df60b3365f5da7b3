use Rattle.dpl_layer.proofs.many.read_layer.Goals as goal

pub returns-in-Err-Refused : goal.returns-in-Err-Refused
returns-in-Err-Refused c = λ bytes holds. rw c.in-Err-Refused.field-0-is at (c.in-Err-Refused.ensures.fault bytes holds)
