use Rattle.dpl_edits.proofs.applying.without.Goals as goal

pub returns : goal.returns
returns c = rw c.rects-2.ensures.value at c.of_rects_without.ensures
