use Rattle.std.proofs.Common.{take}
use Rattle.dpl_sweep.specs.Passes.{IsPassed, end_row, first_row}
use Rattle.dpl_sweep.proofs.by_tree.pass.Given as goal

abbrev pub invariant-loop-i : goal.invariant-loop-i
invariant-loop-i l = IsPassed l.rule (take l.i l.edges) first_row end_row l.fn.start l.pieces.items l.bands
