use Rattle.dpl_sides.proofs.Noting.{IsRunNoted}
use Rattle.dpl_sides.proofs.noted.note.Given as goal

abbrev pub invariant-loop-i : goal.invariant-loop-i
invariant-loop-i l = IsRunNoted l.corner l.corners l.first l.i l.initial.noted l.noted
