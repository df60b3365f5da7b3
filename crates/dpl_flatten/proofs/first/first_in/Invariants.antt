use Rattle.std.proofs.Common.{take}
use Rattle.dpl_spec_format.specs.Tree.{elements_at}
use Rattle.dpl_flatten.specs.Least.{IsLeastOf, Among}
use Rattle.dpl_flatten.specs.Wants.{finding_of}
use Rattle.dpl_flatten.proofs.first.first_in.Given as goal

abbrev pub invariant-loop-element : goal.invariant-loop-element
invariant-loop-element l = IsLeastOf (Among l.structure (take l.element-index (elements_at l.lib l.structure)) (finding_of l.lib l.wanted)) l.first
