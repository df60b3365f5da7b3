use Rattle.std.proofs.Common.{◌-◌, length}
use Rattle.dpl_shade.proofs.EndLaws.{AreDone}
use Rattle.dpl_shade.proofs.ends.ends_of.Given as goal

abbrev pub invariant-loop-start : goal.invariant-loop-start
invariant-loop-start l = AreDone l.items l.dead l.start l.ends.items

abbrev pub decreases-loop-start : goal.decreases-loop-start
decreases-loop-start l = length l.items - l.start
