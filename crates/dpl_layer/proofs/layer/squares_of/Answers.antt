use Rattle.dpl_layer.proofs.Layers.{drawn_squares}
use Rattle.dpl_layer.proofs.layer.squares_of.Goals as goal

pub returns-clause-squares : goal.returns-clause-squares
returns-clause-squares c = λ lib top layer is.
    drawn_squares lib top layer c.in_ok-shapes.shapes c.in_ok-of_shapes.field-0 (c.in_ok-shapes.ensures.layer lib top layer is) c.in_ok-of_shapes.ensures
