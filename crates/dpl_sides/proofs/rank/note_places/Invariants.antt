use Rattle.dpl_sides.specs.Noted.{AreRanksBelow}
use Rattle.dpl_sides.proofs.rank.note_places.Given as goal

abbrev pub invariant-loop-i : goal.invariant-loop-i
invariant-loop-i l = AreRanksBelow l.pieces l.i l.ranks
