use Rattle.std.proofs.Common.{rules, w32, FitsSigned, ◌^◌}
use Rattle.std.proofs.lemmas.Int.{to_z-of_z}
use Rattle.std.proofs.lemmas.Result.{IfOk-weaker}
use Rattle.dpl_sweep.proofs.BandLaws.{mends-parts, mends-same}
use Rattle.dpl_sweep.proofs.balance.rotated_down.Goals as goal

pub returns-in-Split : goal.returns-in-Split
returns-in-Split c =
    let r : FitsSigned w32 c.in-Split.row = search rules in
    IfOk-weaker c.lift_above.result _ _ (λ t is. mends-parts c.args.rule c.args.bands _ _ t c.in-Split.row c.in-Split.ensures is)
    (rw (to_z-of_z w32 c.in-Split.row r) at c.lift_above.ensures)

pub returns-then-not-leans_above : goal.returns-then-not-leans_above
returns-then-not-leans_above c = mends-same c.args.rule c.args.bands

pub returns-in-Whole : goal.returns-in-Whole
returns-in-Whole c = rw c.in-Whole.ensures (mends-same c.args.rule _)

pub lift_above-requires-clause-below : goal.lift_above-requires-clause-below
lift_above-requires-clause-below c = (c.in-Split.ensures.small (2 ^ 62) c.requires).0

pub lift_above-requires-clause-above : goal.lift_above-requires-clause-above
lift_above-requires-clause-above c = (c.in-Split.ensures.small (2 ^ 62) c.requires).1
