use Rattle.dpl_session.proofs.index.Index.of.Goals as goal

pub invariant_of-result : goal.invariant_of-result
invariant_of-result c = (rw (c.items.ensures.value, c.parts.ensures.value) at c.in_ok-tree.ensures, rw c.parts.ensures.value at c.items.ensures.parts)
