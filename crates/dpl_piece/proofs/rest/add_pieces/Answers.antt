use Rattle.std.proofs.lemmas.Result.{IfOk-from_err}
use Rattle.dpl_piece.proofs.rest.add_pieces.Goals as goal

pub returns-in_err-push-clause-adds : goal.returns-in_err-push-clause-adds
returns-in_err-push-clause-adds c = IfOk-from_err _ _ c.from_residual.ensures.0

pub returns-in_err-push-clause-keeps : goal.returns-in_err-push-clause-keeps
returns-in_err-push-clause-keeps c = IfOk-from_err _ _ c.from_residual.ensures.0

pub returns-in_err-add_parts-clause-adds : goal.returns-in_err-add_parts-clause-adds
returns-in_err-add_parts-clause-adds c = IfOk-from_err _ _ c.from_residual-in_err-add_parts.ensures.0

pub returns-in_err-add_parts-clause-keeps : goal.returns-in_err-add_parts-clause-keeps
returns-in_err-add_parts-clause-keeps c = IfOk-from_err _ _ c.from_residual-in_err-add_parts.ensures.0

pub returns-in_err-push-2-clause-adds : goal.returns-in_err-push-2-clause-adds
returns-in_err-push-2-clause-adds c = IfOk-from_err _ _ c.from_residual-in_err-push-2.ensures.0

pub returns-in_err-push-2-clause-keeps : goal.returns-in_err-push-2-clause-keeps
returns-in_err-push-2-clause-keeps c = IfOk-from_err _ _ c.from_residual-in_err-push-2.ensures.0
