use Rattle.std.proofs.Common.{rules, arith, w16, FitsSigned}
use Rattle.std.proofs.lemmas.Int.{ints}
use Rattle.dpl_test_cuts.proofs.sets.point.Goals as goal

pub returns : goal.returns
returns c =
    let x : FitsSigned w16 c.args.corner.now.0 = search rules in
    let y : FitsSigned w16 c.args.corner.now.1 = search rules in
    record { column = omega (arith, ints, x); row = omega (arith, ints, y) }
