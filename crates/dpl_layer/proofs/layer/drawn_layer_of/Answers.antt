use Rattle.std.proofs.lemmas.Result.{err_from_is_err_and}
use Rattle.dpl_layer.proofs.layer.drawn_layer_of.Goals as goal

pub returns-in_err-lib-clause-drawn : goal.returns-in_err-lib-clause-drawn
returns-in_err-lib-clause-drawn c = rw (err_from_is_err_and c.from_residual.result c.from_residual.ensures.1).1 tt
