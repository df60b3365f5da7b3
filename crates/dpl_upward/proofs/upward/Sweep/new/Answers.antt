use Rattle.std.proofs.lemmas.Result.{IfOk-from_err}
use Rattle.dpl_upward.proofs.upward.Sweep.new.Goals as goal

pub returns : goal.returns
returns c =
    record {
      pieces = c.in_ok-with_capacity.ensures.items;
      here = c.new-2.ensures.items;
      bars = (c.new-3.ensures.begun, c.new-3.ensures.none);
      gaps = (c.new-4.ensures.begun, c.new-4.ensures.none);
    }

pub returns-in_err-with_capacity : goal.returns-in_err-with_capacity
returns-in_err-with_capacity c = IfOk-from_err _ _ c.from_residual.ensures.0
