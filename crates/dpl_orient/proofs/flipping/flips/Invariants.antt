use Rattle.dpl_orient.specs.Crossings.{crossings_at}
use Rattle.dpl_orient.proofs.Flips.{AreSettled}
use Rattle.dpl_orient.proofs.flipping.flips.Given as goal

abbrev pub invariant-loop-root : goal.invariant-loop-root
invariant-loop-root l = AreSettled (crossings_at l.chart l.sides l.across) l.flips.items l.root l.next
