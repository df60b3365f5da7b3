use Rattle.dpl_orient.proofs.Charts.{chart-none, chart-own_more}
use Rattle.dpl_orient.proofs.chart.own_roots.Goals as goal

pub loop-v-init : goal.loop-v-init
loop-v-init c = rw c.in_ok-chart.ensures.items chart-none

pub loop-v-preserved : goal.loop-v-preserved
loop-v-preserved c = rw (c.in_ok-push.ensures.items, c.own_root.ensures) (chart-own_more c.loop-v.v c.loop-v.chart.items c.loop-v.invariant)
