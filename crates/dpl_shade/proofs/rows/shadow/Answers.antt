use Rattle.std.proofs.Common.{arith, refl, ◌<◌}
use Rattle.std.proofs.lemmas.Int.{ints}
use Rattle.dpl_base.proofs.SpanLaws.{span-gap-as}
use Rattle.dpl_shade.proofs.ShadowLaws.{no-shade, shadow-from_reach, reach-small}
use Rattle.dpl_shade.proofs.rows.shadow.Goals as goal

pub overflow_sub-result-in-Some : goal.overflow_sub-result-in-Some
overflow_sub-result-in-Some c =
    let small = reach-small _ _ _ c.requires.corner c.in-Some.ensures.some in
    let low = c.requires.other.low in
    let short : c.args.spacing.rule < 4294967296 = omega arith in
    omega (arith, ints, small, low, short)

pub overflow_add-result-in-Some : goal.overflow_add-result-in-Some
overflow_add-result-in-Some c =
    let small = reach-small _ _ _ c.requires.corner c.in-Some.ensures.some in
    let high = c.requires.other.high in
    let short : c.args.spacing.rule < 4294967296 = omega arith in
    omega (arith, ints, small, high, short)

pub returns-in-None-clause-none : goal.returns-in-None-clause-none
returns-in-None-clause-none c e =
    no-shade c.args.spacing c.requires.corner _ c.args.slab.now c.args.other.now
    (span-gap-as _ _ _ _ c.span_gap-across.ensures.gap (omega (arith, ints)) (omega (arith, ints)) (omega (arith, ints)) (omega (arith, ints)))
    (c.in-None.ensures.none.0 refl)

pub returns-in-Some-clause-some : goal.returns-in-Some-clause-some
returns-in-Some-clause-some c =
    let small = reach-small _ _ _ c.requires.corner c.in-Some.ensures.some in
    let short : c.args.spacing.rule < 4294967296 = omega arith in
    let low = c.requires.other.low in
    let high = c.requires.other.high in
    shadow-from_reach c.args.spacing c.requires.corner _ c.args.slab.now c.args.other.now
    (span-gap-as _ _ _ _ c.span_gap-across.ensures.gap (omega (arith, ints)) (omega (arith, ints)) (omega (arith, ints)) (omega (arith, ints)))
    c.in-Some.r _ _ c.requires.other.tall c.in-Some.ensures.some (omega (arith, ints, small, low, short)) (omega (arith, ints, small, high, short))
