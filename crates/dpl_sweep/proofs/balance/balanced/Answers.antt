use Rattle.std.proofs.Common.{w32, ◌^◌}
use Rattle.std.proofs.lemmas.Int.{to_z-of_z}
use Rattle.std.proofs.lemmas.Result.{IfOk-weaker, IfOk-from_err}
use Rattle.dpl_sweep.proofs.BandLaws.{mended-after_above, mended-after_below}
use Rattle.dpl_sweep.proofs.balance.balanced.Goals as goal

pub returns-then-is_higher : goal.returns-then-is_higher
returns-then-is_higher c =
    IfOk-weaker c.lift_above.result _ _ (λ t is. mended-after_above c.args.rule c.args.below c.args.above _ t c.args.row c.in_ok-upper.ensures is)
    (rw (to_z-of_z w32 c.args.row c.ranges.row) at c.lift_above.ensures)

pub returns-then-is_higher-2 : goal.returns-then-is_higher-2
returns-then-is_higher-2 c =
    IfOk-weaker c.lift_below.result _ _ (λ t is. mended-after_below c.args.rule c.args.below _ c.args.above t c.args.row c.in_ok-lower.ensures is)
    (rw (to_z-of_z w32 c.args.row c.ranges.row) at c.lift_below.ensures)

pub returns-in_err-upper : goal.returns-in_err-upper
returns-in_err-upper c = IfOk-from_err _ _ c.from_residual.ensures.0

pub returns-in_err-lower : goal.returns-in_err-lower
returns-in_err-lower c = IfOk-from_err _ _ c.from_residual-in_err-lower.ensures.0

pub lift_above-requires-clause-above : goal.lift_above-requires-clause-above
lift_above-requires-clause-above c = c.in_ok-upper.ensures.small (2 ^ 62) c.requires.above

pub lift_below-requires-clause-below : goal.lift_below-requires-clause-below
lift_below-requires-clause-below c = c.in_ok-lower.ensures.small (2 ^ 62) c.requires.below

pub returns : goal.returns
returns c = rw (to_z-of_z w32 c.args.row c.ranges.row) at c.two.ensures
