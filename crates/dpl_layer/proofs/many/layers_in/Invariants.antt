use Rattle.std.proofs.Common.{take}
use Rattle.std.specs.List.{AllZip}
use Rattle.dpl_layer.specs.Many.{IsReadIn}
use Rattle.dpl_layer.proofs.many.layers_in.Given as goal

-- what is read of the layers that were met
abbrev pub invariant-loop-choice : goal.invariant-loop-choice
invariant-loop-choice l = AllZip (IsReadIn l.lib) (take l.choice-index l.choices) l.layers.items
