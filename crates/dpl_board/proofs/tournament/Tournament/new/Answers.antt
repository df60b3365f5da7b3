use Rattle.std.proofs.lemmas.Result.{IfOk-from_err}
use Rattle.dpl_board.proofs.tournament.Tournament.new.Goals as goal

pub returns-in_err-nodes-clause-tree : goal.returns-in_err-nodes-clause-tree
returns-in_err-nodes-clause-tree c = IfOk-from_err _ _ c.from_residual.ensures.0

pub returns-in_err-nodes-clause-leaves : goal.returns-in_err-nodes-clause-leaves
returns-in_err-nodes-clause-leaves c = IfOk-from_err _ _ c.from_residual.ensures.0

pub returns-in_err-nodes-clause-none : goal.returns-in_err-nodes-clause-none
returns-in_err-nodes-clause-none c = IfOk-from_err _ _ c.from_residual.ensures.0
