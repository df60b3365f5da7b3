use Rattle.dpl_slabs.proofs.SliceLaws.{without-within}
use Rattle.std.proofs.lemmas.Result.{IfOk-from_err}
use Rattle.dpl_slabs.proofs.slices.slabs_left.Goals as goal

pub returns-in-Some-clause-within : goal.returns-in-Some-clause-within
returns-in-Some-clause-within c = without-within c.args.rects.now c.args.holes.now _ c.requires.rects c.requires.holes (rw c.in-Some.is at c.in_ok-slabs.ensures)

pub returns-in_err-slabs-clause-slabs : goal.returns-in_err-slabs-clause-slabs
returns-in_err-slabs-clause-slabs c = IfOk-from_err _ _ c.from_residual.ensures.0

pub returns-in_err-slabs-clause-within : goal.returns-in_err-slabs-clause-within
returns-in_err-slabs-clause-within c = IfOk-from_err _ _ c.from_residual.ensures.0
