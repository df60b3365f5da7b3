use Rattle.std.proofs.Common.{take}
use Rattle.std.specs.List.{All}
use Rattle.dpl_sweep.specs.Few.{IsWithin}
use Rattle.dpl_sweep.proofs.few.rows_of.Given as goal

abbrev pub invariant-loop-edge : goal.invariant-loop-edge
invariant-loop-edge l = All (IsWithin l.low l.top) (take l.edge-index l.edges)
