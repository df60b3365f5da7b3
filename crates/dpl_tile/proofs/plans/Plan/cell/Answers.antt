use Rattle.dpl_tile.proofs.plans.Plan.cell.Goals as goal

pub cell-requires-clause-sound : goal.cell-requires-clause-sound
cell-requires-clause-sound c = c.self.invariant.sound

pub returns-clause-solid : goal.returns-clause-solid
returns-clause-solid c = c.cell.ensures.solid
