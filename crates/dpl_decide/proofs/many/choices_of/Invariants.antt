use Rattle.std.proofs.Common.{option_map, take}
use Rattle.std.specs.List.{AllZip}
use Rattle.dpl_decide.specs.Many.{IsChosen}
use Rattle.dpl_decide.proofs.many.choices_of.Given as goal

-- the choices of the layers that were met
abbrev pub invariant-loop-layer : goal.invariant-loop-layer
invariant-loop-layer l = AllZip (IsChosen (option_map (λ t. t.now) l.order.top) l.order.datatype) (take l.layer-index l.order.layers.now) l.choices.items
