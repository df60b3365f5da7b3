use Rattle.std.proofs.lemmas.Result.{IfOk-from_err}
use Rattle.dpl_masks.proofs.bytes.file_bytes.Goals as goal

pub returns-in_err-out : goal.returns-in_err-out
returns-in_err-out c = IfOk-from_err _ _ c.from_residual.ensures.0

pub returns-in_err-reserve : goal.returns-in_err-reserve
returns-in_err-reserve c = IfOk-from_err _ _ c.from_residual-in_err-reserve.ensures.0

pub returns-in_err-put_boundaries : goal.returns-in_err-put_boundaries
returns-in_err-put_boundaries c = IfOk-from_err _ _ c.from_residual-in_err-put_boundaries.ensures.0

pub returns-in_err-put_boundaries-2 : goal.returns-in_err-put_boundaries-2
returns-in_err-put_boundaries-2 c = IfOk-from_err _ _ c.from_residual-in_err-put_boundaries-2.ensures.0

pub returns-in_err-extend_from_slice : goal.returns-in_err-extend_from_slice
returns-in_err-extend_from_slice c = IfOk-from_err _ _ c.from_residual-in_err-extend_from_slice.ensures.0
