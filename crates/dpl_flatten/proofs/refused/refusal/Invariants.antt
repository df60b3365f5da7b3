use Rattle.std.proofs.Common.{ℕ, ◌<◌}
use Rattle.std.specs.List.{Contains}
use Rattle.dpl_spec_format.specs.Tree.{Element, elements_at}
use Rattle.dpl_links.specs.Graph.{IsMarked}
use Rattle.dpl_flatten.specs.Drawn.{IsTakenAt}
use Rattle.dpl_flatten.proofs.refused.refusal.Given as goal

abbrev pub invariant-loop-structure : goal.invariant-loop-structure
invariant-loop-structure l = (k : ℕ) (e : Element) → k < l.structure → IsMarked l.marks k → Contains (elements_at l.lib k) e → IsTakenAt l.chosen e l.at
