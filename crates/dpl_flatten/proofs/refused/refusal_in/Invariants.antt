use Rattle.std.proofs.Common.{take}
use Rattle.std.specs.List.{Contains}
use Rattle.dpl_spec_format.specs.Tree.{Element, elements_at}
use Rattle.dpl_flatten.specs.Drawn.{IsTakenAt}
use Rattle.dpl_flatten.proofs.refused.refusal_in.Given as goal

abbrev pub invariant-loop-element : goal.invariant-loop-element
invariant-loop-element l = (e : Element) → Contains (take l.element-index (elements_at l.lib l.structure)) e → IsTakenAt l.chosen e l.at
