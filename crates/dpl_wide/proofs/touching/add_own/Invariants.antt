use Rattle.std.proofs.Common.{◌-◌, length}
use Rattle.dpl_wide.proofs.Finding.{IsSought}
use Rattle.dpl_wide.proofs.touching.add_own.Given as goal

abbrev pub invariant-loop-n : goal.invariant-loop-n
invariant-loop-n l = IsSought l.cell l.tree l.initial.edges.items l.n l.edges.items

abbrev pub decreases-loop-n : goal.decreases-loop-n
decreases-loop-n l = length l.tree - l.n
