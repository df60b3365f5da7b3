use Rattle.dpl_slabs.specs.Rows.{RisesTo}
use Rattle.dpl_slabs.proofs.row.is_spaced.Given as goal

abbrev pub invariant-loop-i : goal.invariant-loop-i
invariant-loop-i l = RisesTo l.row l.i
