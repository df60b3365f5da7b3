use Rattle.std.proofs.Common.{take}
use Rattle.dpl_spec_format.specs.Tree.{elements_at}
use Rattle.dpl_flatten.specs.Cells.{IsCell}
use Rattle.dpl_flatten.proofs.cells.cell_of.Given as goal

abbrev pub invariant-loop-element : goal.invariant-loop-element
invariant-loop-element l = IsCell l.lib l.chosen (take l.element-index (elements_at l.lib l.structure)) l.outlines.items l.copies.items
