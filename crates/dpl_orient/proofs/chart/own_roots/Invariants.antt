use Rattle.std.proofs.Common.{[]}
use Rattle.dpl_orient.specs.Chart.{IsChart}
use Rattle.dpl_orient.proofs.chart.own_roots.Given as goal

abbrev pub invariant-loop-v : goal.invariant-loop-v
invariant-loop-v l = IsChart [] l.v l.chart.items
