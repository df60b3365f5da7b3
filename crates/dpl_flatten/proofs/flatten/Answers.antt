use Rattle.std.proofs.lemmas.Result.{IfOk-from_err}
use Rattle.dpl_flatten.proofs.flatten.Goals as goal

pub returns-clause-covers : goal.returns-clause-covers
returns-clause-covers c = λ s. (
  λ h. (c.in_ok-shapes.ensures.covers s).0 ((c.in_ok-loops_of.ensures.covers s).0 h),
  λ h. (c.in_ok-loops_of.ensures.covers s).1 ((c.in_ok-shapes.ensures.covers s).1 h),
)

pub returns-clause-straight : goal.returns-clause-straight
returns-clause-straight c = c.in_ok-loops_of.ensures.straight c.in_ok-shapes.ensures.straight

pub returns-clause-within : goal.returns-clause-within
returns-clause-within c = c.in_ok-loops_of.ensures.within c.in_ok-shapes.ensures.rects c.in_ok-shapes.ensures.loops

pub returns-in_err-shapes-clause-covers : goal.returns-in_err-shapes-clause-covers
returns-in_err-shapes-clause-covers c = IfOk-from_err _ _ c.from_residual.ensures.0

pub returns-in_err-shapes-clause-straight : goal.returns-in_err-shapes-clause-straight
returns-in_err-shapes-clause-straight c = IfOk-from_err _ _ c.from_residual.ensures.0

pub returns-in_err-shapes-clause-within : goal.returns-in_err-shapes-clause-within
returns-in_err-shapes-clause-within c = IfOk-from_err _ _ c.from_residual.ensures.0

pub returns-in_err-shapes-clause-faultless : goal.returns-in_err-shapes-clause-faultless
returns-in_err-shapes-clause-faultless c = IfOk-from_err _ _ c.from_residual.ensures.0

pub returns-in_err-loops_of-clause-covers : goal.returns-in_err-loops_of-clause-covers
returns-in_err-loops_of-clause-covers c = IfOk-from_err _ _ c.from_residual-in_err-loops_of.ensures.0

pub returns-in_err-loops_of-clause-straight : goal.returns-in_err-loops_of-clause-straight
returns-in_err-loops_of-clause-straight c = IfOk-from_err _ _ c.from_residual-in_err-loops_of.ensures.0

pub returns-in_err-loops_of-clause-within : goal.returns-in_err-loops_of-clause-within
returns-in_err-loops_of-clause-within c = IfOk-from_err _ _ c.from_residual-in_err-loops_of.ensures.0

pub returns-in_err-loops_of-clause-faultless : goal.returns-in_err-loops_of-clause-faultless
returns-in_err-loops_of-clause-faultless c = IfOk-from_err _ _ c.from_residual-in_err-loops_of.ensures.0
