use Rattle.std.proofs.Common.{take}
use Rattle.dpl_flatten.proofs.LinkLaws.{AreTargets}
use Rattle.dpl_flatten.proofs.links.targets.Given as goal

abbrev pub invariant-loop-element : goal.invariant-loop-element
invariant-loop-element l = AreTargets l.lib (take l.element-index l.element-items) l.found.items
