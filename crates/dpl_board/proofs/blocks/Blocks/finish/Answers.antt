use Rattle.std.proofs.lemmas.Result.{IfOk-from_err}
use Rattle.dpl_board.proofs.Summings.{is-whole}
use Rattle.dpl_board.proofs.blocks.Blocks.finish.Goals as goal

pub returns : goal.returns
returns c =
    let sums = rw (c.deref.ensures.value, c.into_sums-sums.ensures) at c.in_ok-joined.ensures in
    rw (← c.self.view_is) (is-whole _ c.in_ok-joined.joined sums)

pub returns-in_err-joined : goal.returns-in_err-joined
returns-in_err-joined c = IfOk-from_err _ _ c.from_residual.ensures.0
