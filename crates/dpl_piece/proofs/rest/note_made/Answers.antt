use Rattle.std.proofs.lemmas.Result.{IfOk-from_err}
use Rattle.dpl_piece.proofs.rest.note_made.Goals as goal

pub returns-in_err-note_moved-clause-firsts : goal.returns-in_err-note_moved-clause-firsts
returns-in_err-note_moved-clause-firsts c = IfOk-from_err _ _ c.from_residual.ensures.0

pub returns-in_err-note_moved-clause-seconds : goal.returns-in_err-note_moved-clause-seconds
returns-in_err-note_moved-clause-seconds c = IfOk-from_err _ _ c.from_residual.ensures.0

pub note_moved-requires : goal.note_moved-requires
note_moved-requires c = rw c.deref_mut.ensures.value c.requires.firsts

pub note_moved-requires-2 : goal.note_moved-requires-2
note_moved-requires-2 c = rw c.deref_mut-2.ensures.value c.requires.seconds
