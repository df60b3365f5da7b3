use Rattle.std.proofs.Common.{refl, rules, arith, w32, w64, FitsSigned, ◌+ℤ◌}
use Rattle.std.proofs.lemmas.Int.{ints, to_z-of_z}
use Rattle.dpl_sweep.proofs.BandLaws.{follows-one, follows-cut}
use Rattle.dpl_sweep.proofs.bands.Bands.follow.Goals as goal

pub returns-in-One : goal.returns-in-One
returns-in-One c =
    let run = c.in-One.run' in
    let at : FitsSigned w32 c.args.lag.at = search rules in
    let before : FitsSigned w64 run.a = search rules in
    let more : FitsSigned w64 c.args.lag.a = search rules in
    let (m, small, room) = rw c.in-One.is at c.requires in
    let both : FitsSigned w64 (run.a +ℤ c.args.lag.a) = omega (arith, ints, small.0, room) in
    rw (c.in-One.is, to_z-of_z w32 c.args.lag.at at, to_z-of_z w64 run.a before, to_z-of_z w64 c.args.lag.a more, to_z-of_z w64 _ both)
    (follows-one run _ c.args.lag refl refl refl refl)

pub returns-in-Two : goal.returns-in-Two
returns-in-Two c =
    rw c.in-Two.is
    (follows-cut c.args.lag _ _ (refl, refl, refl, refl, c.after.result, refl, c.after.ensures.at, c.after.ensures.a))
