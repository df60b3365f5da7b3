use Rattle.std.proofs.lemmas.Result.{IfOk-from_err}
use Rattle.dpl_slabs.proofs.combine.by_corner.Goals as goal

pub returns-in_err-sorted-clause-same : goal.returns-in_err-sorted-clause-same
returns-in_err-sorted-clause-same c = IfOk-from_err _ _ c.from_residual.ensures.0

pub returns-in_err-sorted-clause-rise : goal.returns-in_err-sorted-clause-rise
returns-in_err-sorted-clause-rise c = IfOk-from_err _ _ c.from_residual.ensures.0

pub returns-in_err-extend_from_slice-clause-same : goal.returns-in_err-extend_from_slice-clause-same
returns-in_err-extend_from_slice-clause-same c = IfOk-from_err _ _ c.from_residual-in_err-extend_from_slice.ensures.0

pub returns-in_err-extend_from_slice-clause-rise : goal.returns-in_err-extend_from_slice-clause-rise
returns-in_err-extend_from_slice-clause-rise c = IfOk-from_err _ _ c.from_residual-in_err-extend_from_slice.ensures.0
