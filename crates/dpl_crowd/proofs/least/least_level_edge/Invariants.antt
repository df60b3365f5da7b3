use Rattle.std.proofs.Common.{◌-◌, length}
use Rattle.dpl_crowd.specs.Crowds.{graph_in}
use Rattle.dpl_crowd.specs.Walking.{ArePast}
use Rattle.dpl_crowd.proofs.least.least_level_edge.Given as goal

abbrev pub invariant-loop-at : goal.invariant-loop-at
invariant-loop-at l = ArePast (graph_in l.crowd) 0 l.at

abbrev pub decreases-loop-at : goal.decreases-loop-at
decreases-loop-at l = length l.levels - l.at
