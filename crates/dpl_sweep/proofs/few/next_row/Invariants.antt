use Rattle.std.proofs.Common.{take}
use Rattle.std.specs.Prelude.{◌<ℤ◌, ◌≤ℤ◌}
use Rattle.std.specs.List.{All}
use Rattle.dpl_sweep.specs.Few.{EndsOutside}
use Rattle.dpl_sweep.proofs.few.next_row.Given as goal

abbrev pub invariant-loop-edge : goal.invariant-loop-edge
invariant-loop-edge l = (l.row <ℤ l.next) × (l.next ≤ℤ l.top) × All (EndsOutside l.row l.next) (take l.edge-index l.edges)
