use Rattle.dpl_sides.proofs.noted.fn.sides_of.join+arg3.Goals as goal

pub returns : goal.returns
returns c = rw c.deref.ensures.value at c.seconds_of.ensures
