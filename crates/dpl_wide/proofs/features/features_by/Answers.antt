use Rattle.std.proofs.Common.{refl}
use Rattle.std.proofs.lemmas.Result.{IfOk-from_err}
use Rattle.dpl_wide.proofs.features.features_by.Goals as goal

pub parents_by-requires-clause-owners : goal.parents_by-requires-clause-owners
parents_by-requires-clause-owners g c κs l = rw (c.deref.ensures.value, c.in_ok-owners.ensures, c.rects.ensures.value) refl

pub returns-in_err-parts : goal.returns-in_err-parts
returns-in_err-parts g c = IfOk-from_err _ _ c.from_residual.ensures.0

pub returns-in_err-owners : goal.returns-in_err-owners
returns-in_err-owners g c = IfOk-from_err _ _ c.from_residual-in_err-owners.ensures.0

pub returns-in_err-parents : goal.returns-in_err-parents
returns-in_err-parents g c = IfOk-from_err _ _ c.from_residual-in_err-parents.ensures.0
