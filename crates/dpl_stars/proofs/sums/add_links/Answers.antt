use Rattle.std.proofs.lemmas.Result.{IfOk-from_err}
use Rattle.dpl_stars.proofs.sums.add_links.Goals as goal

pub returns-in_err-more : goal.returns-in_err-more
returns-in_err-more c = IfOk-from_err _ _ c.from_residual.ensures.0
