use Rattle.std.proofs.lemmas.Result.{IfOk-from_err}
use Rattle.dpl_board.proofs.blocks.Blocks.new.Goals as goal

pub returns-in_err-new-clause-fresh : goal.returns-in_err-new-clause-fresh
returns-in_err-new-clause-fresh c = IfOk-from_err _ _ c.from_residual.ensures.0

pub returns-in_err-new-clause-none : goal.returns-in_err-new-clause-none
returns-in_err-new-clause-none c = IfOk-from_err _ _ c.from_residual.ensures.0

pub returns-in_err-new-2-clause-fresh : goal.returns-in_err-new-2-clause-fresh
returns-in_err-new-2-clause-fresh c = IfOk-from_err _ _ c.from_residual-in_err-new-2.ensures.0

pub returns-in_err-new-2-clause-none : goal.returns-in_err-new-2-clause-none
returns-in_err-new-2-clause-none c = IfOk-from_err _ _ c.from_residual-in_err-new-2.ensures.0
