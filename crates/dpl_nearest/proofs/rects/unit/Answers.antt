use Rattle.dpl_nearest.proofs.rects.unit.Goals as goal

pub returns-in_err-x0-clause-some : goal.returns-in_err-x0-clause-some
returns-in_err-x0-clause-some c = rw c.from_residual.ensures tt

pub returns-in_err-y0-clause-some : goal.returns-in_err-y0-clause-some
returns-in_err-y0-clause-some c = rw c.from_residual-in_err-y0.ensures tt

pub returns-in_err-x1-clause-some : goal.returns-in_err-x1-clause-some
returns-in_err-x1-clause-some c = rw c.from_residual-in_err-x1.ensures tt

pub returns-in_err-y1-clause-some : goal.returns-in_err-y1-clause-some
returns-in_err-y1-clause-some c = rw c.from_residual-in_err-y1.ensures tt
