use Rattle.dpl_slabs.proofs.parts.Parts.items.Goals as goal

pub returns-clause-parts : goal.returns-clause-parts
returns-clause-parts c = rw c.self.view_is at c.self.invariant
