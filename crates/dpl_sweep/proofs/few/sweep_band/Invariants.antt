use Rattle.std.proofs.Common.{take}
use Rattle.dpl_sweep.specs.Few.{IsBandPassed}
use Rattle.dpl_sweep.proofs.few.sweep_band.Given as goal

abbrev pub invariant-loop-i : goal.invariant-loop-i
invariant-loop-i l = IsBandPassed l.rule (take l.i l.edges) l.low l.high l.fn.start l.initial.pieces.items l.pieces.items l.run
