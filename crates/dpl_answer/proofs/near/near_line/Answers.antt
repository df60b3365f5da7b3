use Rattle.std.proofs.lemmas.Result.{IfOk-from_err}
use Rattle.dpl_answer.proofs.NearLines.{point_fits}
use Rattle.dpl_answer.proofs.near.near_line.Goals as goal

pub returns-clause-within : goal.returns-clause-within
returns-clause-within c =
    let pair = rw c.in-Some.is at c.in_ok-from.ensures.some in (
      point_fits c.rects.result.now c.in-Some.from (rw c.rects.ensures.value c.rects.ensures.within) pair.are.from,
      point_fits c.rects-2.result.now c.in-Some.to (rw c.rects-2.ensures.value c.rects-2.ensures.within) pair.are.to,
    )

pub returns-in_err-from-clause-nearest : goal.returns-in_err-from-clause-nearest
returns-in_err-from-clause-nearest c = IfOk-from_err _ _ c.from_residual.ensures.0

pub returns-in_err-from-clause-within : goal.returns-in_err-from-clause-within
returns-in_err-from-clause-within c = IfOk-from_err _ _ c.from_residual.ensures.0
