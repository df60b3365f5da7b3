use Rattle.dpl_sweep.proofs.BandLaws.{mended-one, mended-two}
use Rattle.std.proofs.lemmas.Result.{IfOk-from_err}
use Rattle.std.proofs.Common.{rules, w32}
use Rattle.std.proofs.lemmas.Int.{to_z-of_z}
use Rattle.dpl_sweep.proofs.balance.two.Goals as goal

pub returns-in-Some : goal.returns-in-Some
returns-in-Some c = mended-one c.args.rule c.args.below c.args.above c.args.row c.in-Some.run' c.in-Some.ensures.some

pub returns-in_err-below-in-None : goal.returns-in_err-below-in-None
returns-in_err-below-in-None c = IfOk-from_err _ _ c.from_residual.ensures.0

pub returns-in_err-above-in-None : goal.returns-in_err-above-in-None
returns-in_err-above-in-None c = IfOk-from_err _ _ c.from_residual-in_err-above-in-None.ensures.0

pub returns-in_ok-above-in-None : goal.returns-in_ok-above-in-None
returns-in_ok-above-in-None c = mended-two c.args.rule c.args.below c.args.above _ c.args.row
    (search rules, search rules, rw (to_z-of_z w32 c.args.row c.ranges.row) at c.cut_over-cut.ensures)
