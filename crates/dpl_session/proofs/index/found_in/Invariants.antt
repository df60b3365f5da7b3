use Rattle.std.proofs.Common.{◌-◌, length}
use Rattle.dpl_session.proofs.Seeking.{AreFoundTo}
use Rattle.dpl_session.proofs.index.found_in.Given as goal

abbrev pub invariant-loop-n : goal.invariant-loop-n
invariant-loop-n l = AreFoundTo l.window l.tree l.found.items l.n

abbrev pub decreases-loop-n : goal.decreases-loop-n
decreases-loop-n l = length l.tree - l.n
