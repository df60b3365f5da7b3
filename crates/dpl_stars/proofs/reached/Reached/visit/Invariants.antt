use Rattle.dpl_stars.proofs.VisitLaws.{IsVisiting}
use Rattle.dpl_stars.proofs.reached.Reached.visit.Given as goal

abbrev pub invariant-loop-next : goal.invariant-loop-next
invariant-loop-next l = IsVisiting l.edges l.n l.root l.head l.v l.level l.next l.self

abbrev pub decreases-loop-next : goal.decreases-loop-next
decreases-loop-next l = l.next
