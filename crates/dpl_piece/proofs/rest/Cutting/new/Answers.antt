use Rattle.std.proofs.lemmas.Result.{IfOk-from_err}
use Rattle.dpl_piece.proofs.rest.Cutting.new.Goals as goal

pub returns : goal.returns
returns c =
    record {
      pieces = c.in_ok-with_capacity.ensures.items;
      wholes = c.new-2.ensures.items;
      made = c.new-3.ensures.items;
      firsts = c.in_ok-noted.ensures.firsts;
      seconds = c.in_ok-noted.ensures.seconds;
    }

pub returns-in_err-noted : goal.returns-in_err-noted
returns-in_err-noted c = IfOk-from_err _ _ c.from_residual.ensures.0

pub returns-in_err-with_capacity : goal.returns-in_err-with_capacity
returns-in_err-with_capacity c = IfOk-from_err _ _ c.from_residual-in_err-with_capacity.ensures.0
