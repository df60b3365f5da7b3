use Rattle.std.proofs.Common.{sym, rules, w32, FitsSigned, ◌^◌}
use Rattle.std.proofs.lemmas.Int.{to_z-of_z}
use Rattle.std.proofs.lemmas.Result.{IfOk-weaker, IfOk-from_err}
use Rattle.dpl_sweep.proofs.BandLaws.{mended-above}
use Rattle.dpl_sweep.proofs.balance.lift_above.Goals as goal

pub returns-in_ok-lower-in-Split : goal.returns-in_ok-lower-in-Split
returns-in_ok-lower-in-Split c =
    let r : FitsSigned w32 c.in-Split.last = search rules in
    let lower = rw (to_z-of_z w32 c.args.row c.ranges.row) at c.in_ok-lower-in-Split.ensures in
    IfOk-weaker c.two-in-Split-2.result _ _ (λ t is. mended-above c.args.rule _ _ c.args.below c.args.above _ t _ c.args.row c.in-Split.ensures lower is)
    (rw (to_z-of_z w32 c.in-Split.last r) at c.two-in-Split-2.ensures)

pub returns-in-Whole : goal.returns-in-Whole
returns-in-Whole c = rw (sym c.in-Whole.ensures, to_z-of_z w32 c.args.row c.ranges.row) at c.two.ensures

pub returns-in_err-lower-in-Split : goal.returns-in_err-lower-in-Split
returns-in_err-lower-in-Split c = IfOk-from_err _ _ c.from_residual.ensures.0

pub two-requires-clause-above : goal.two-requires-clause-above
two-requires-clause-above c = rw c.in-Whole.ensures at c.requires.above

pub two-requires-in-Split-clause-above : goal.two-requires-in-Split-clause-above
two-requires-in-Split-clause-above c = (c.in-Split.ensures.small (2 ^ 62) c.requires.above).0

pub two-requires-in-Split-2-clause-below : goal.two-requires-in-Split-2-clause-below
two-requires-in-Split-2-clause-below c =
    c.in_ok-lower-in-Split.ensures.small (2 ^ 62) c.requires.below (c.in-Split.ensures.small (2 ^ 62) c.requires.above).0

pub two-requires-in-Split-2-clause-above : goal.two-requires-in-Split-2-clause-above
two-requires-in-Split-2-clause-above c = (c.in-Split.ensures.small (2 ^ 62) c.requires.above).1
