use Rattle.std.proofs.Common.{w32}
use Rattle.std.proofs.lemmas.Int.{to_z-of_z}
use Rattle.dpl_upward.proofs.ActiveLaws.{gathered}
use Rattle.std.proofs.lemmas.Result.{IfOk-from_err}
use Rattle.dpl_upward.proofs.active.gather.Goals as goal

pub returns : goal.returns
returns c =
    let row = to_z-of_z w32 c.args.low c.ranges.low in
    let first = rw (row, c.clear.ensures.items) at c.in_ok-add_reaching.ensures in
    let second = rw row at c.in_ok-add_reaching-2.ensures in
    gathered c.args.low c.args.active.now c.args.starts.now _ _ _ first second c.in_ok-sort_by_left.ensures.same c.in_ok-sort_by_left.ensures.rise

pub returns-in_err-add_reaching : goal.returns-in_err-add_reaching
returns-in_err-add_reaching c = IfOk-from_err _ _ c.from_residual.ensures.0

pub returns-in_err-add_reaching-2 : goal.returns-in_err-add_reaching-2
returns-in_err-add_reaching-2 c = IfOk-from_err _ _ c.from_residual-in_err-add_reaching-2.ensures.0

pub returns-in_err-sort_by_left : goal.returns-in_err-sort_by_left
returns-in_err-sort_by_left c = IfOk-from_err _ _ c.from_residual-in_err-sort_by_left.ensures.0
