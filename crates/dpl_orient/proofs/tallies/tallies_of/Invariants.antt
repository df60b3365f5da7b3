use Rattle.std.proofs.Common.{take}
use Rattle.dpl_orient.specs.Tallies.{AreTallies}
use Rattle.dpl_orient.proofs.tallies.tallies_of.Given as goal

abbrev pub invariant-loop-link : goal.invariant-loop-link
invariant-loop-link l = AreTallies (take l.link-index l.links) l.flips l.tallies.items
