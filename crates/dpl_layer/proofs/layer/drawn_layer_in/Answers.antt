use Rattle.std.proofs.lemmas.Result.{err_from_is_err_and}
use Rattle.dpl_layer.proofs.layer.drawn_layer_in.Goals as goal

pub returns-in_err-top-clause-drawn : goal.returns-in_err-top-clause-drawn
returns-in_err-top-clause-drawn c = rw (err_from_is_err_and c.from_residual.result c.from_residual.ensures.1).1 tt

pub returns-in_err-copied-clause-drawn : goal.returns-in_err-copied-clause-drawn
returns-in_err-copied-clause-drawn c = rw (err_from_is_err_and c.from_residual-in_err-copied.result c.from_residual-in_err-copied.ensures.1).1 tt

pub returns-in_err-drawing-clause-drawn : goal.returns-in_err-drawing-clause-drawn
returns-in_err-drawing-clause-drawn c = rw (err_from_is_err_and c.from_residual-in_err-drawing.result c.from_residual-in_err-drawing.ensures.1).1 tt
