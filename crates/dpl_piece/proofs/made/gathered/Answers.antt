use Rattle.std.proofs.lemmas.Result.{IfOk-from_err}
use Rattle.dpl_piece.proofs.made.gathered.Goals as goal

pub returns-in_err-pile : goal.returns-in_err-pile
returns-in_err-pile c = IfOk-from_err _ _ c.from_residual-in_err-pile.ensures.0
