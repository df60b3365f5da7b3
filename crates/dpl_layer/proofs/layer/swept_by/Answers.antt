use Rattle.dpl_layer.specs.View.{IsLayerFault}
use Rattle.dpl_layer.proofs.Layers.{drawn_fault, given_fault, swept_layer}
use Rattle.dpl_layer.proofs.layer.swept_by.Goals as goal

pub returns-clause-layer : goal.returns-clause-layer
returns-clause-layer g c = λ v bytes has. swept_layer v bytes c.args.drawn.copied.items c.args.drawn.drawing c.in_ok-slabs.slabs has c.in_ok-slabs.ensures.squares

pub returns-in_err-slabs-clause-fault : goal.returns-in_err-slabs-clause-fault
returns-in_err-slabs-clause-fault g c = λ v bytes has.
    given_fault (IsLayerFault v bytes) c.from_residual.result c.in_err-slabs.field-0.0 c.from_residual.ensures.1
    (drawn_fault v bytes c.args.drawn.copied.items c.args.drawn.drawing c.in_err-slabs.field-0.0 has c.in_err-slabs.ensures.fault)
