use Rattle.std.proofs.Common.{length, take}
use Rattle.dpl_orient.specs.Chart.{IsChart}
use Rattle.dpl_orient.proofs.chart.put_rows.Given as goal

abbrev pub invariant-loop-row : goal.invariant-loop-row
invariant-loop-row l = IsChart (take l.row-index l.rows) (length l.initial.chart) l.chart
