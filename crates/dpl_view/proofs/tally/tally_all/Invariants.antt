use Rattle.std.proofs.Common.{map, take}
use Rattle.dpl_syntax.specs.Elements.{element_seen}
use Rattle.dpl_view.specs.Layers.{AreMore, count_in}
use Rattle.dpl_view.proofs.tally.tally_all.Given as goal

abbrev pub invariant-loop-element : goal.invariant-loop-element
invariant-loop-element l = AreMore (λ test. count_in test (map element_seen (take l.element-index l.elements))) l.fn.table l.table
