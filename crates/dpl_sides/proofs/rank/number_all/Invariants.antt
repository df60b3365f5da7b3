use Rattle.dpl_sides.proofs.Places.{AreNumberedBelow}
use Rattle.dpl_sides.proofs.rank.number_all.Given as goal

abbrev pub invariant-loop-i : goal.invariant-loop-i
invariant-loop-i l = AreNumberedBelow l.i l.initial.pieces l.pieces
