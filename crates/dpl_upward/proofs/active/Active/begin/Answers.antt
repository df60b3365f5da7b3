use Rattle.std.proofs.Common.{w32}
use Rattle.std.proofs.lemmas.Int.{to_z-of_z}
use Rattle.dpl_upward.proofs.ActiveLaws.{begins, rise-drop}
use Rattle.std.proofs.lemmas.Result.{IfOk-from_err}
use Rattle.dpl_upward.proofs.active.Active.begin.Goals as goal

pub returns : goal.returns
returns c =
    let row = to_z-of_z w32 c.args.low c.ranges.low in
    let found = rw (row, c.deref.ensures.value, c.split_at-2.ensures.front, c.split_at.ensures.back) at c.in_ok-gather.ensures in
    let counted = rw (row, c.split_at.ensures.back) at c.count_begun-count.ensures in
    rw c.swap.ensures.x_after
    (begins c.args.low c.args.all.now c.args.self.now.begun _ c.requires.active c.count_begun-count.result _ counted.within found counted.begun counted.above)

pub split_at-requires : goal.split_at-requires
split_at-requires c = c.requires.active.within

pub count_begun-count-requires : goal.count_begun-count-requires
count_begun-count-requires c = rw c.split_at.ensures.back (rise-drop c.args.self.now.begun c.args.all.now c.requires.rise)

pub split_at-requires-2 : goal.split_at-requires-2
split_at-requires-2 c = c.count_begun-count.ensures.within

pub returns-in_err-gather : goal.returns-in_err-gather
returns-in_err-gather c = IfOk-from_err _ _ c.from_residual.ensures.0
