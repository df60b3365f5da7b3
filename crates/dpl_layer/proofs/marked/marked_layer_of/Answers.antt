use Rattle.dpl_layer.specs.View.{IsMarkedFault, marked_choice_view}
use Rattle.dpl_layer.proofs.Layers.{given_fault}
use Rattle.dpl_layer.proofs.Markers.{fault_of_layer}
use Rattle.dpl_layer.proofs.marked.marked_layer_of.Goals as goal

pub returns-clause-layer : goal.returns-clause-layer
returns-clause-layer c =
    c.marked_squares.ensures.layer (marked_choice_view c.args.choice.now) c.args.bytes.items _
    (rw c.as_slice.ensures.value at c.in_ok-copied.ensures.drawn) c.in_ok-slabs.ensures.squares

pub returns-clause-fault : goal.returns-clause-fault
returns-clause-fault c =
    c.marked_squares.ensures.fault (marked_choice_view c.args.choice.now) c.args.bytes.items _
    (rw c.as_slice.ensures.value at c.in_ok-copied.ensures.drawn) c.in_ok-slabs.ensures.squares

pub returns-in_err-slabs-clause-fault : goal.returns-in_err-slabs-clause-fault
returns-in_err-slabs-clause-fault c =
    let v = marked_choice_view c.args.choice.now in
    given_fault (IsMarkedFault v c.args.bytes.items) c.from_residual-in_err-slabs.result c.in_err-slabs.field-0.0 c.from_residual-in_err-slabs.ensures.1
    (fault_of_layer v c.args.bytes.items _ _ _ _ (rw c.as_slice.ensures.value at c.in_ok-copied.ensures.drawn)
    c.in_err-slabs.field-0.0 c.in_err-slabs.ensures.fault)
