use Rattle.dpl_slabs.specs.Rows.{AreBarsSoFar}
use Rattle.dpl_slabs.proofs.row.slabs_of_row.Given as goal

abbrev pub invariant-loop-i : goal.invariant-loop-i
invariant-loop-i l = AreBarsSoFar l.row l.i l.done.items l.last
