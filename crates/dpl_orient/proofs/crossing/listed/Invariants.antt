use Rattle.dpl_orient.proofs.Numbers.{AreListed}
use Rattle.dpl_orient.proofs.crossing.listed.Given as goal

abbrev pub invariant-loop-zone : goal.invariant-loop-zone
invariant-loop-zone l = AreListed l.chart l.sides l.zone l.across.items
