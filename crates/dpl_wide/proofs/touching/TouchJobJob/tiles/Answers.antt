use Rattle.dpl_wide.proofs.Sheeting.{is-sheet}
use Rattle.dpl_wide.proofs.touching.TouchJobJob.tiles.Goals as goal

pub returns-clause-edges : goal.returns-clause-edges
returns-clause-edges c = is-sheet c.args.self.now
