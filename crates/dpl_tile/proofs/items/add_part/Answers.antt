use Rattle.std.proofs.lemmas.Result.{IfOk-from_err}
use Rattle.dpl_tile.proofs.items.add_part.Goals as goal

pub returns : goal.returns
returns c = rw (c.rects.ensures.value, c.in-Some.ensures.some) at c.in_ok-add_slabs.ensures

pub returns-in_err-add_slabs : goal.returns-in_err-add_slabs
returns-in_err-add_slabs c = IfOk-from_err _ _ c.from_residual.ensures.0
