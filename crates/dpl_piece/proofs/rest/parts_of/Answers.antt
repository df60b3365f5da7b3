use Rattle.std.proofs.lemmas.Result.{IfOk-from_err}
use Rattle.dpl_piece.proofs.rest.parts_of.Goals as goal

pub broken-requires : goal.broken-requires
broken-requires c = rw c.in_ok-holes.ensures c.requires.within

pub returns-in_err-holes : goal.returns-in_err-holes
returns-in_err-holes c = IfOk-from_err _ _ c.from_residual.ensures.0

pub returns-in_err-broken : goal.returns-in_err-broken
returns-in_err-broken c = IfOk-from_err _ _ c.from_residual-in_err-broken.ensures.0
