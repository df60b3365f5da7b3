use Rattle.dpl_orient.specs.Crossings.{crossings_at}
use Rattle.dpl_orient.proofs.Settling.{IsSettling}
use Rattle.dpl_orient.proofs.flipping.settle.Given as goal

abbrev pub invariant-loop-next : goal.invariant-loop-next
invariant-loop-next l = IsSettling (crossings_at l.chart l.sides l.across) l.flips l.root l.next l.agreeing l.differing
