use Rattle.dpl_layer.specs.View.{IsLayerFault, choice_view}
use Rattle.dpl_layer.proofs.Layers.{given_fault}
use Rattle.dpl_layer.proofs.ManyLayers.{fault_held}
use Rattle.dpl_layer.proofs.layer.layer_in.Goals as goal

pub returns-clause-layer : goal.returns-clause-layer
returns-clause-layer c = λ bytes holds. c.swept.ensures.layer (choice_view c.args.choice.now) bytes (c.args.lib.now, holds, c.in_ok-drawn.ensures.drawn)

pub returns-clause-fault : goal.returns-clause-fault
returns-clause-fault c = λ bytes holds. c.swept.ensures.fault (choice_view c.args.choice.now) bytes (c.args.lib.now, holds, c.in_ok-drawn.ensures.drawn)

pub returns-in_err-drawn-clause-fault : goal.returns-in_err-drawn-clause-fault
returns-in_err-drawn-clause-fault c = λ bytes holds.
    let v = choice_view c.args.choice.now in
    given_fault (IsLayerFault v bytes) c.from_residual.result c.in_err-drawn.field-0.0 c.from_residual.ensures.1
    (fault_held v bytes c.args.lib.now c.in_err-drawn.field-0.0 holds c.in_err-drawn.ensures.fault)
