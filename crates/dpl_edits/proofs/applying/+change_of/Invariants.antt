use Rattle.std.proofs.Common.{length}
use Rattle.dpl_edits.proofs.applying.+change_of.Given as goal

abbrev pub decreases-change_of : goal.decreases-change_of
decreases-change_of l = length l.edits.now
