use Rattle.dpl_layer.specs.View.{IsMarkedFault}
use Rattle.dpl_layer.proofs.Layers.{given_fault}
use Rattle.dpl_layer.proofs.Markers.{fault_of_a, fault_of_b, marked_layer}
use Rattle.dpl_layer.proofs.marked.marked_squares.Goals as goal

pub returns-clause-layer : goal.returns-clause-layer
returns-clause-layer c = λ v bytes d has squares.
    marked_layer v bytes c.args.copied.items d c.args.mark_a c.args.mark_b has
    c.args.slabs c.in_ok-mark_a.mark_a c.in_ok-mark_b.mark_b squares
    c.in_ok-mark_a.ensures.faultless c.in_ok-mark_a.ensures.set c.in_ok-mark_b.ensures.faultless c.in_ok-mark_b.ensures.set

pub returns-in_err-mark_a-clause-fault : goal.returns-in_err-mark_a-clause-fault
returns-in_err-mark_a-clause-fault c = λ v bytes d has squares.
    given_fault (IsMarkedFault v bytes) c.from_residual.result c.in_err-mark_a.field-0.0 c.from_residual.ensures.1
    (fault_of_a v bytes c.args.copied.items d c.args.mark_a c.args.mark_b has
    c.in_err-mark_a.field-0.0 c.args.slabs squares c.in_err-mark_a.ensures.fault)

pub returns-in_err-mark_b-clause-fault : goal.returns-in_err-mark_b-clause-fault
returns-in_err-mark_b-clause-fault c = λ v bytes d has squares.
    given_fault (IsMarkedFault v bytes) c.from_residual-in_err-mark_b.result c.in_err-mark_b.field-0.0 c.from_residual-in_err-mark_b.ensures.1
    (fault_of_b v bytes c.args.copied.items d c.args.mark_a c.args.mark_b has
    c.in_err-mark_b.field-0.0 c.args.slabs squares c.in_ok-mark_a.ensures.faultless c.in_err-mark_b.ensures.fault)
