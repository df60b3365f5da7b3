use Rattle.dpl_board.proofs.Gathers.{AreGathered}
use Rattle.dpl_board.proofs.kept.Kept.into_sums.Given as goal

abbrev pub invariant-loop-tile : goal.invariant-loop-tile
invariant-loop-tile l = AreGathered l.fn.self.starts.items l.fn.self.sums.items l.tile l.count l.sums.items
