use Rattle.std.proofs.Common.{take}
use Rattle.dpl_gains.specs.Tallies.{AreTallies}
use Rattle.dpl_gains.proofs.tallies.tallies_of.Given as goal

abbrev pub invariant-loop-k : goal.invariant-loop-k
invariant-loop-k l = AreTallies l.roots l.letters (take l.k l.sides) l.tallies.items
