use Rattle.std.proofs.lemmas.Result.{IfOk-from_err}
use Rattle.dpl_slabs.proofs.slabs.Slabs.of_rects_without.Goals as goal

pub returns : goal.returns
returns c = rw c.of_canonical.ensures c.in_ok-rects.ensures.slabs

pub returns-in_err-rects : goal.returns-in_err-rects
returns-in_err-rects c = IfOk-from_err _ _ c.from_residual.ensures.0
