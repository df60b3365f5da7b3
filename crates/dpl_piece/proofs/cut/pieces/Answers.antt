use Rattle.std.proofs.Common.{◌∙◌}
use Rattle.std.proofs.lemmas.Result.{IfOk-weaker, IfOk-from_err}
use Rattle.dpl_piece.proofs.cut.pieces.Goals as goal

pub returns-clause-zones : goal.returns-clause-zones
returns-clause-zones c = IfOk-weaker c.completed.result _ _ (λ pieces are. are.zones ∙ c.in_ok-bare.ensures.zones) c.completed.ensures

pub returns-clause-pieces : goal.returns-clause-pieces
returns-clause-pieces c = IfOk-weaker c.completed.result _ _ (λ pieces are. c.in_ok-bare.ensures.pieces pieces are) c.completed.ensures

pub returns-in_err-bare-clause-zones : goal.returns-in_err-bare-clause-zones
returns-in_err-bare-clause-zones c = IfOk-from_err _ _ c.from_residual.ensures.0

pub returns-in_err-bare-clause-pieces : goal.returns-in_err-bare-clause-pieces
returns-in_err-bare-clause-pieces c = IfOk-from_err _ _ c.from_residual.ensures.0
