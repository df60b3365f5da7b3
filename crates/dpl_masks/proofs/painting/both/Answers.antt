use Rattle.std.proofs.lemmas.Result.{IfOk-from_err}
use Rattle.dpl_masks.proofs.painting.both.Goals as goal

pub returns : goal.returns
returns c =
    record {
      first = c.in_ok-a.ensures.mask;
      second = c.in_ok-b.ensures.mask;
      within = (c.in_ok-a.ensures.within, c.in_ok-b.ensures.within);
    }

pub returns-in_err-a : goal.returns-in_err-a
returns-in_err-a c = IfOk-from_err _ _ c.from_residual.ensures.0

pub returns-in_err-b : goal.returns-in_err-b
returns-in_err-b c = IfOk-from_err _ _ c.from_residual-in_err-b.ensures.0
