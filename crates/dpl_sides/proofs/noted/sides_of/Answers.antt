use Rattle.std.proofs.lemmas.Result.{IfOk-from_err}
use Rattle.dpl_sides.proofs.noted.sides_of.Goals as goal

pub returns-in_err-noted-clause-firsts : goal.returns-in_err-noted-clause-firsts
returns-in_err-noted-clause-firsts g c = IfOk-from_err _ _ c.from_residual.ensures.0

pub returns-in_err-noted-clause-seconds : goal.returns-in_err-noted-clause-seconds
returns-in_err-noted-clause-seconds g c = IfOk-from_err _ _ c.from_residual.ensures.0

pub returns-in_err-note_sides-clause-firsts : goal.returns-in_err-note_sides-clause-firsts
returns-in_err-note_sides-clause-firsts g c = IfOk-from_err _ _ c.from_residual-in_err-note_sides.ensures.0

pub returns-in_err-note_sides-clause-seconds : goal.returns-in_err-note_sides-clause-seconds
returns-in_err-note_sides-clause-seconds g c = IfOk-from_err _ _ c.from_residual-in_err-note_sides.ensures.0

pub returns-in_err-short_id-clause-firsts : goal.returns-in_err-short_id-clause-firsts
returns-in_err-short_id-clause-firsts g c = IfOk-from_err _ _ c.from_residual-in_err-short_id.ensures.0

pub returns-in_err-short_id-clause-seconds : goal.returns-in_err-short_id-clause-seconds
returns-in_err-short_id-clause-seconds g c = IfOk-from_err _ _ c.from_residual-in_err-short_id.ensures.0

pub returns-in_err-list_slabs-clause-firsts : goal.returns-in_err-list_slabs-clause-firsts
returns-in_err-list_slabs-clause-firsts g c = IfOk-from_err _ _ c.from_residual-in_err-list_slabs.ensures.0

pub returns-in_err-list_slabs-clause-seconds : goal.returns-in_err-list_slabs-clause-seconds
returns-in_err-list_slabs-clause-seconds g c = IfOk-from_err _ _ c.from_residual-in_err-list_slabs.ensures.0

pub returns-in_err-firsts-clause-firsts : goal.returns-in_err-firsts-clause-firsts
returns-in_err-firsts-clause-firsts g c = IfOk-from_err _ _ c.from_residual-in_err-firsts.ensures.0

pub returns-in_err-firsts-clause-seconds : goal.returns-in_err-firsts-clause-seconds
returns-in_err-firsts-clause-seconds g c = IfOk-from_err _ _ c.from_residual-in_err-firsts.ensures.0

pub returns-in_err-seconds-clause-firsts : goal.returns-in_err-seconds-clause-firsts
returns-in_err-seconds-clause-firsts g c = IfOk-from_err _ _ c.from_residual-in_err-seconds.ensures.0

pub returns-in_err-seconds-clause-seconds : goal.returns-in_err-seconds-clause-seconds
returns-in_err-seconds-clause-seconds g c = IfOk-from_err _ _ c.from_residual-in_err-seconds.ensures.0
