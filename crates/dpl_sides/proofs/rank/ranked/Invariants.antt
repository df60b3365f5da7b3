use Rattle.dpl_sides.proofs.Places.{AreRankedBelow}
use Rattle.dpl_sides.proofs.rank.ranked.Given as goal

abbrev pub invariant-loop-i : goal.invariant-loop-i
invariant-loop-i l = AreRankedBelow l.i l.ranks l.firsts l.seconds l.sides.items
