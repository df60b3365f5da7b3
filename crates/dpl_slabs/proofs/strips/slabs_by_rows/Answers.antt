use Rattle.dpl_slabs.proofs.SweptLaws.{swept-all}
use Rattle.std.proofs.lemmas.Result.{IfOk-from_err}
use Rattle.dpl_slabs.proofs.strips.slabs_by_rows.Goals as goal

pub returns-clause-slabs : goal.returns-clause-slabs
returns-clause-slabs g c = swept-all c.args.rects.now _ _ _ c.in_ok-swept.ensures.start c.in_ok-swept.ensures.end c.in_ok-swept.ensures.swept

pub returns-in_err-made-clause-slabs : goal.returns-in_err-made-clause-slabs
returns-in_err-made-clause-slabs g c = IfOk-from_err _ _ c.from_residual.ensures.0

pub returns-in_err-made-clause-within : goal.returns-in_err-made-clause-within
returns-in_err-made-clause-within g c = IfOk-from_err _ _ c.from_residual.ensures.0

pub returns-in_err-swept-clause-slabs : goal.returns-in_err-swept-clause-slabs
returns-in_err-swept-clause-slabs g c = IfOk-from_err _ _ c.from_residual-in_err-swept.ensures.0

pub returns-in_err-swept-clause-within : goal.returns-in_err-swept-clause-within
returns-in_err-swept-clause-within g c = IfOk-from_err _ _ c.from_residual-in_err-swept.ensures.0
