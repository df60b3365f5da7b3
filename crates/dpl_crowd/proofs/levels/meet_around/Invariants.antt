use Rattle.dpl_crowd.specs.Crowds.{graph_in}
use Rattle.dpl_crowd.specs.Walking.{Meets}
use Rattle.dpl_crowd.proofs.MeetLaws.{Joins, OfFirst}
use Rattle.dpl_crowd.proofs.levels.meet_around.Given as goal

abbrev pub invariant-loop-v : goal.invariant-loop-v
invariant-loop-v l = Meets (OfFirst (Joins (graph_in l.crowd)) l.front l.v-index) l.level l.initial.levels l.levels l.initial.next.items l.next.items
