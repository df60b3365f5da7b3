use Rattle.dpl_layer.specs.View.{IsFaultOfLayer}
use Rattle.dpl_layer.proofs.Layers.{drawn_squares, given_fault, named_fault}
use Rattle.dpl_layer.proofs.layer.squares_by.Goals as goal

pub returns-clause-squares : goal.returns-clause-squares
returns-clause-squares g c = λ lib top layer is.
    drawn_squares lib top layer c.in_ok-shapes.shapes c.in_ok-of_shapes_by.field-0 (c.in_ok-shapes.ensures.layer lib top layer is) c.in_ok-of_shapes_by.ensures

pub returns-in_err-shapes-clause-fault : goal.returns-in_err-shapes-clause-fault
returns-in_err-shapes-clause-fault g c = λ lib top layer is.
    given_fault (IsFaultOfLayer lib top layer) c.from_residual.result _ c.from_residual.ensures.1
    (named_fault lib top layer c.in_err-shapes.field-0.0 (c.in_err-shapes.ensures.layer lib top layer is))
