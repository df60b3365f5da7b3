use Rattle.std.proofs.lemmas.Result.{IfOk-from_err}
use Rattle.dpl_walk.proofs.walk.visit.Goals as goal

pub gather_all-requires-clause-points : goal.gather_all-requires-clause-points
gather_all-requires-clause-points c = rw c.items.ensures c.requires.points

pub returns-in_err-gather_all-clause-gathered : goal.returns-in_err-gather_all-clause-gathered
returns-in_err-gather_all-clause-gathered c = IfOk-from_err _ _ c.from_residual.ensures.0

pub returns-in_err-gather_all-clause-put : goal.returns-in_err-gather_all-clause-put
returns-in_err-gather_all-clause-put c = IfOk-from_err _ _ c.from_residual.ensures.0

pub returns-in_err-put_all-clause-gathered : goal.returns-in_err-put_all-clause-gathered
returns-in_err-put_all-clause-gathered c = IfOk-from_err _ _ c.from_residual-in_err-put_all.ensures.0

pub returns-in_err-put_all-clause-put : goal.returns-in_err-put_all-clause-put
returns-in_err-put_all-clause-put c = IfOk-from_err _ _ c.from_residual-in_err-put_all.ensures.0
