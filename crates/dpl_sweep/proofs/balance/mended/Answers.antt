use Rattle.std.proofs.Common.{rules, w32, FitsSigned, ◌^◌}
use Rattle.std.proofs.lemmas.Int.{to_z-of_z}
use Rattle.std.proofs.lemmas.Result.{IfOk-weaker}
use Rattle.dpl_sweep.proofs.BandLaws.{mends-parts, mends-same}
use Rattle.dpl_sweep.proofs.balance.mended.Goals as goal

pub returns-in-Split : goal.returns-in-Split
returns-in-Split c =
    let r : FitsSigned w32 c.in-Split.row = search rules in
    IfOk-weaker c.join.result _ _ (λ t is. mends-parts c.args.rule c.args.bands _ _ t c.in-Split.row c.in-Split.ensures is)
    (rw (to_z-of_z w32 c.in-Split.row r) at c.join.ensures)

pub returns-in-Whole : goal.returns-in-Whole
returns-in-Whole c = rw c.in-Whole.ensures (mends-same c.args.rule _)

pub join-requires-clause-below : goal.join-requires-clause-below
join-requires-clause-below c = (c.in-Split.ensures.small (2 ^ 62) c.requires).0

pub join-requires-clause-above : goal.join-requires-clause-above
join-requires-clause-above c = (c.in-Split.ensures.small (2 ^ 62) c.requires).1
