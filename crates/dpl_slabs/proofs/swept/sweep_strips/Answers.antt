use Rattle.std.proofs.lemmas.Result.{IfOk-from_err}
use Rattle.dpl_slabs.proofs.swept.sweep_strips.Goals as goal

pub returns-in_err-slabs-clause-swept : goal.returns-in_err-slabs-clause-swept
returns-in_err-slabs-clause-swept g c = IfOk-from_err _ _ c.from_residual.ensures.0

pub returns-in_err-slabs-clause-start : goal.returns-in_err-slabs-clause-start
returns-in_err-slabs-clause-start g c = IfOk-from_err _ _ c.from_residual.ensures.0

pub returns-in_err-slabs-clause-end : goal.returns-in_err-slabs-clause-end
returns-in_err-slabs-clause-end g c = IfOk-from_err _ _ c.from_residual.ensures.0

pub returns-in_err-add_next-clause-swept : goal.returns-in_err-add_next-clause-swept
returns-in_err-add_next-clause-swept g c = IfOk-from_err _ _ c.from_residual-in_err-add_next.ensures.0

pub returns-in_err-add_next-clause-start : goal.returns-in_err-add_next-clause-start
returns-in_err-add_next-clause-start g c = IfOk-from_err _ _ c.from_residual-in_err-add_next.ensures.0

pub returns-in_err-add_next-clause-end : goal.returns-in_err-add_next-clause-end
returns-in_err-add_next-clause-end g c = IfOk-from_err _ _ c.from_residual-in_err-add_next.ensures.0
