use Rattle.dpl_sides.proofs.noted.fn.sides_of.join+arg2.Goals as goal

pub returns : goal.returns
returns c = rw c.deref.ensures.value at c.firsts_of.ensures
