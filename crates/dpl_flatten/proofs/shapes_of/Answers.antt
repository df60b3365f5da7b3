use Rattle.std.proofs.lemmas.Result.{MatchResult-weaker, IfOk-from_err}
use Rattle.dpl_flatten.proofs.shapes_of.Goals as goal

pub returns-clause-covers : goal.returns-clause-covers
returns-clause-covers c = MatchResult-weaker c.shapes.result (c.shapes.ensures.layer c.args.lib.now c.args.top c.args.layer c.in_ok-drawing.ensures.drawing)
    (λ loops are. are.covers) (λ fault first. tt)

pub returns-clause-straight : goal.returns-clause-straight
returns-clause-straight c = MatchResult-weaker c.shapes.result (c.shapes.ensures.layer c.args.lib.now c.args.top c.args.layer c.in_ok-drawing.ensures.drawing)
    (λ loops are. are.straight) (λ fault first. tt)

pub returns-clause-faultless : goal.returns-clause-faultless
returns-clause-faultless c = MatchResult-weaker c.shapes.result (c.shapes.ensures.layer c.args.lib.now c.args.top c.args.layer c.in_ok-drawing.ensures.drawing)
    (λ loops are. are.faultless) (λ fault first. tt)

pub returns-clause-fault : goal.returns-clause-fault
returns-clause-fault c = MatchResult-weaker c.shapes.result (c.shapes.ensures.layer c.args.lib.now c.args.top c.args.layer c.in_ok-drawing.ensures.drawing)
    (λ loops are. tt) (λ fault first. first)

pub returns-in_err-drawing-clause-covers : goal.returns-in_err-drawing-clause-covers
returns-in_err-drawing-clause-covers c = IfOk-from_err _ _ c.from_residual.ensures.0

pub returns-in_err-drawing-clause-straight : goal.returns-in_err-drawing-clause-straight
returns-in_err-drawing-clause-straight c = IfOk-from_err _ _ c.from_residual.ensures.0

pub returns-in_err-drawing-clause-rects : goal.returns-in_err-drawing-clause-rects
returns-in_err-drawing-clause-rects c = IfOk-from_err _ _ c.from_residual.ensures.0

pub returns-in_err-drawing-clause-loops : goal.returns-in_err-drawing-clause-loops
returns-in_err-drawing-clause-loops c = IfOk-from_err _ _ c.from_residual.ensures.0

pub returns-in_err-drawing-clause-faultless : goal.returns-in_err-drawing-clause-faultless
returns-in_err-drawing-clause-faultless c = IfOk-from_err _ _ c.from_residual.ensures.0
