use Rattle.std.proofs.lemmas.Result.{IfOk-from_err}
use Rattle.std.specs.Prelude.{None}
use Rattle.dpl_answer.proofs.Told.{vertex-known}
use Rattle.dpl_answer.proofs.cycle.piece_cycle_lines.Goals as goal

pub place_lines-requires-clause-known : goal.place_lines-requires-clause-known
place_lines-requires-clause-known c = λ k h. vertex-known None c.args.spacing c.args.pieces.now.parts c.args.pieces.now.owners c.args.cycle.now k c.requires.odd h

pub near_lines-requires-clause-known : goal.near_lines-requires-clause-known
near_lines-requires-clause-known c = λ k h. (c.requires.odd.around k h).first

pub near_lines-requires-clause-near : goal.near_lines-requires-clause-near
near_lines-requires-clause-near c = λ k h. (c.requires.odd.around k h).near

pub returns-in_err-places : goal.returns-in_err-places
returns-in_err-places c = IfOk-from_err _ _ c.from_residual.ensures.0

pub returns-in_err-near : goal.returns-in_err-near
returns-in_err-near c = IfOk-from_err _ _ c.from_residual-in_err-near.ensures.0
