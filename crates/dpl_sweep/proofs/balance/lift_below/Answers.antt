use Rattle.std.proofs.Common.{sym, rules, w32, FitsSigned, ◌^◌}
use Rattle.std.proofs.lemmas.Int.{to_z-of_z}
use Rattle.std.proofs.lemmas.Result.{IfOk-weaker, IfOk-from_err}
use Rattle.dpl_sweep.proofs.BandLaws.{mended-below}
use Rattle.dpl_sweep.proofs.balance.lift_below.Goals as goal

pub returns-in_ok-upper-in-Split : goal.returns-in_ok-upper-in-Split
returns-in_ok-upper-in-Split c =
    let r : FitsSigned w32 c.in-Split.first = search rules in
    let upper = rw (to_z-of_z w32 c.args.row c.ranges.row) at c.in_ok-upper-in-Split.ensures in
    IfOk-weaker c.two-in-Split-2.result _ _ (λ t is. mended-below c.args.rule _ _ c.args.below c.args.above _ t _ c.args.row c.in-Split.ensures upper is)
    (rw (to_z-of_z w32 c.in-Split.first r) at c.two-in-Split-2.ensures)

pub returns-in-Whole : goal.returns-in-Whole
returns-in-Whole c = rw (sym c.in-Whole.ensures, to_z-of_z w32 c.args.row c.ranges.row) at c.two.ensures

pub returns-in_err-upper-in-Split : goal.returns-in_err-upper-in-Split
returns-in_err-upper-in-Split c = IfOk-from_err _ _ c.from_residual.ensures.0

pub two-requires-clause-below : goal.two-requires-clause-below
two-requires-clause-below c = rw c.in-Whole.ensures at c.requires.below

pub two-requires-in-Split-clause-below : goal.two-requires-in-Split-clause-below
two-requires-in-Split-clause-below c = (c.in-Split.ensures.small (2 ^ 62) c.requires.below).1

pub two-requires-in-Split-2-clause-below : goal.two-requires-in-Split-2-clause-below
two-requires-in-Split-2-clause-below c = (c.in-Split.ensures.small (2 ^ 62) c.requires.below).0

pub two-requires-in-Split-2-clause-above : goal.two-requires-in-Split-2-clause-above
two-requires-in-Split-2-clause-above c =
    c.in_ok-upper-in-Split.ensures.small (2 ^ 62) (c.in-Split.ensures.small (2 ^ 62) c.requires.below).1 c.requires.above
