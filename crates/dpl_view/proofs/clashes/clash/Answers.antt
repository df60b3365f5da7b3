use Rattle.std.proofs.lemmas.Result.{IfOk-from_err}
use Rattle.dpl_view.proofs.clashes.clash.Goals as goal

pub near_lines-requires-clause-near : goal.near_lines-requires-clause-near
near_lines-requires-clause-near c = λ k l. (c.requires.odd.around k l).near

pub returns-in_err-places : goal.returns-in_err-places
returns-in_err-places c = IfOk-from_err _ _ c.from_residual.ensures.0

pub returns-in_err-near : goal.returns-in_err-near
returns-in_err-near c = IfOk-from_err _ _ c.from_residual-in_err-near.ensures.0
