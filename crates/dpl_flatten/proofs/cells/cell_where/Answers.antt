use Rattle.dpl_flatten.proofs.cells.cell_where.Goals as goal

pub cell_of-requires-clause-bare : goal.cell_of-requires-clause-bare
cell_of-requires-clause-bare c = c.requires.bare c.if-not-marked.false

pub cell_of-requires-clause-taken : goal.cell_of-requires-clause-taken
cell_of-requires-clause-taken c = c.requires.taken c.if-not-marked.false
