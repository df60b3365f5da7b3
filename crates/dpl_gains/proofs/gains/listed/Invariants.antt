use Rattle.dpl_gains.proofs.Listing.{AreListedBelow}
use Rattle.dpl_gains.proofs.gains.listed.Given as goal

abbrev pub invariant-loop-piece : goal.invariant-loop-piece
invariant-loop-piece l = AreListedBelow l.roots l.held l.tallies l.piece l.gains.items
