use Rattle.std.specs.Prelude.{slice_index}
use Rattle.dpl_crowd.specs.Crowds.{graph_in}
use Rattle.dpl_crowd.proofs.ForkLaws.{IsClimbing}
use Rattle.dpl_crowd.proofs.cycle.cycle_through.Given as goal

abbrev pub invariant-loop-top : goal.invariant-loop-top
invariant-loop-top l = IsClimbing (graph_in l.crowd) l.levels l.fn.edge.0 l.fn.edge.1 l.top l.other l.cycle.items l.rest.items

abbrev pub decreases-loop-top : goal.decreases-loop-top
decreases-loop-top l = slice_index l.levels l.top
