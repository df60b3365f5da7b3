use Rattle.std.proofs.Common.{refl}
use Rattle.std.proofs.lemmas.Result.{IfOk-from_err}
use Rattle.dpl_flatten.proofs.DrawingLaws.{shapes_of}
use Rattle.dpl_flatten.proofs.drawing.Drawing.shapes.Goals as goal

pub returns-in-Some-clause-layer : goal.returns-in-Some-clause-layer
returns-in-Some-clause-layer c = λ lib top layer is.
    (let walked = c.in_ok-found.ensures in
    let laid = (rw (← c.self.view_is) at is) walked.0 c.in_ok-found.found.far walked.1 in
    rw c.in-Some.is at laid)

pub returns-clause-layer : goal.returns-clause-layer
returns-clause-layer c = λ lib top layer is.
    (let walked = c.in_ok-found.ensures in
    let laid = (rw (← c.self.view_is) at is) walked.0 c.in_ok-found.found.far walked.1 in
    shapes_of lib top layer c.self.inside.cells.items c.self.inside.top walked.0 c.in_ok-found.found _ (rw c.in-None.is at walked.1) refl refl
    (rw c.in-None.is at laid) walked.2)

pub returns-clause-rects : goal.returns-clause-rects
returns-clause-rects c = c.in_ok-found.ensures.2.rects

pub returns-clause-loops : goal.returns-clause-loops
returns-clause-loops c = c.in_ok-found.ensures.2.loops

pub returns-in_err-found-clause-rects : goal.returns-in_err-found-clause-rects
returns-in_err-found-clause-rects c = IfOk-from_err _ _ c.from_residual.ensures.0

pub returns-in_err-found-clause-loops : goal.returns-in_err-found-clause-loops
returns-in_err-found-clause-loops c = IfOk-from_err _ _ c.from_residual.ensures.0
