use Rattle.std.proofs.Common.{FitsSigned, arith, rules, w32, w64}
use Rattle.std.proofs.lemmas.Int.{ints, to_z-of_z}
use Rattle.dpl_nearest.proofs.FewLaws.{none-left, none-right, first-here, first-there-short}
use Rattle.dpl_nearest.proofs.few.first_within.Goals as goal

pub returns-then-to-a0 : goal.returns-then-to-a0
returns-then-to-a0 c =
    let to_fits : FitsSigned w64 c.right_end-to.result = search rules in
    let to = rw (to_z-of_z w32 c.args.b1 c.ranges.b1) at c.right_end-to.ensures in
    let a0_fits : FitsSigned w64 c.args.a0 = search rules in
    let far = rw (to_z-of_z w32 c.args.a0 c.ranges.a0, to_z-of_z w64 c.args.a0 a0_fits, to_z-of_z w64 c.right_end-to.result to_fits) at c.if-to-a0.true in
    none-left c.args.a0 c.args.a1 c.args.b0 c.args.b1 c.args.most (omega (arith, ints, to, far))

pub returns-then-a1-from : goal.returns-then-a1-from
returns-then-a1-from c =
    let from_fits : FitsSigned w64 c.left_end-from.result = search rules in
    let from = rw (to_z-of_z w32 c.args.b0 c.ranges.b0) at c.left_end-from.ensures in
    let a1_fits : FitsSigned w64 c.args.a1 = search rules in
    let far = rw (to_z-of_z w32 c.args.a1 c.ranges.a1, to_z-of_z w64 c.args.a1 a1_fits, to_z-of_z w64 c.left_end-from.result from_fits) at c.if-a1-from.true in
    none-right c.args.a0 c.args.a1 c.args.b0 c.args.b1 c.args.most (omega (arith, ints, from, far))

pub returns-then-from-a0 : goal.returns-then-from-a0
returns-then-from-a0 c =
    let from_fits : FitsSigned w64 c.left_end-from.result = search rules in
    let from = rw (to_z-of_z w32 c.args.b0 c.ranges.b0) at c.left_end-from.ensures in
    let to_fits : FitsSigned w64 c.right_end-to.result = search rules in
    let to = rw (to_z-of_z w32 c.args.b1 c.ranges.b1) at c.right_end-to.ensures in
    let a0_fits : FitsSigned w64 c.args.a0 = search rules in
    let low = rw (to_z-of_z w32 c.args.a0 c.ranges.a0, to_z-of_z w64 c.args.a0 a0_fits, to_z-of_z w64 c.left_end-from.result from_fits) at c.if-from-a0.true in
    let high = rw (to_z-of_z w32 c.args.a0 c.ranges.a0, to_z-of_z w64 c.args.a0 a0_fits, to_z-of_z w64 c.right_end-to.result to_fits) at c.if-to-a0.false in
    first-here c.args.a0 c.args.a1 c.args.b0 c.args.b1 _ c.args.most (to_z-of_z w32 c.args.a0 c.ranges.a0) c.requires.some_a c.requires.some_b
    (omega (arith, ints, from, low)) (omega (arith, ints, to, high))

pub returns : goal.returns
returns c =
    let from_fits : FitsSigned w64 c.left_end-from.result = search rules in
    let from = rw (to_z-of_z w32 c.args.b0 c.ranges.b0) at c.left_end-from.ensures in
    let a0_fits : FitsSigned w64 c.args.a0 = search rules in
    let a1_fits : FitsSigned w64 c.args.a1 = search rules in
    let low = rw (to_z-of_z w32 c.args.a0 c.ranges.a0, to_z-of_z w64 c.args.a0 a0_fits, to_z-of_z w64 c.left_end-from.result from_fits) at c.if-from-a0.false in
    let high = rw (to_z-of_z w32 c.args.a1 c.ranges.a1, to_z-of_z w64 c.args.a1 a1_fits, to_z-of_z w64 c.left_end-from.result from_fits) at c.if-a1-from.false in
    rw (to_z-of_z w64 c.left_end-from.result from_fits)
    (first-there-short c.args.a0 c.args.a1 c.args.b0 c.args.b1 c.left_end-from.result c.args.most c.ranges.a0 c.ranges.a1 from c.requires.some_b
    (omega (arith, ints, low)) (omega (arith, ints, high)))
