use Rattle.std.proofs.lemmas.Result.{IfOk-from_err}
use Rattle.dpl_flatten.proofs.cells.note_element.Goals as goal

pub returns-in_err-draw : goal.returns-in_err-draw
returns-in_err-draw c = IfOk-from_err _ _ c.from_residual.ensures.0

pub returns-in_err-note_copies : goal.returns-in_err-note_copies
returns-in_err-note_copies c = IfOk-from_err _ _ c.from_residual-in_err-note_copies.ensures.0
