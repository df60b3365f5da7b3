use Rattle.dpl_crowd.specs.Walking.{Meets}
use Rattle.dpl_crowd.proofs.MeetLaws.{IsSame, OfFirst}
use Rattle.dpl_crowd.proofs.levels.meet_all.Given as goal

abbrev pub invariant-loop-v : goal.invariant-loop-v
invariant-loop-v l = Meets (OfFirst IsSame l.found l.v-index) l.level l.initial.levels l.levels l.initial.next.items l.next.items
