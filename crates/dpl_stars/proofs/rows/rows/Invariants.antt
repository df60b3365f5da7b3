use Rattle.dpl_stars.specs.Places.{AreRows}
use Rattle.dpl_stars.proofs.rows.rows.Given as goal

abbrev pub invariant-loop-i : goal.invariant-loop-i
invariant-loop-i l = AreRows l.pieces l.roots l.levels l.i l.rows.items
