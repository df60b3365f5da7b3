use Rattle.std.proofs.Common.{take, ℕ, List}
use Rattle.std.specs.List.{AllZip}
use Rattle.dpl_layer.specs.declared.fault.LayerFault.TheVariants.{Refused}
use Rattle.dpl_layer.specs.Many.{AreFaultOf, IsReadOf}
use Rattle.dpl_layer.proofs.many.refused_for.Given as goal

-- the layers that were met have the fault
abbrev pub invariant-loop-choice : goal.invariant-loop-choice
invariant-loop-choice l = (bytes : List ℕ) → AreFaultOf bytes (Refused l.name l.at) → AllZip (IsReadOf bytes) (take l._choice-index l.choices) l.layers.items
