use Rattle.std.proofs.Common.{refl, ◌∙◌, arith}
use Rattle.std.proofs.lemmas.List.{length-set}
use Rattle.dpl_stars.proofs.TableLaws.{span-within, places-next}
use Rattle.dpl_stars.proofs.table.filled.Goals as goal

pub loop-place-preserved : goal.loop-place-preserved
loop-place-preserved c =
    let (first, len, h) = c.loop-place.invariant in (
      refl,
      length-set _ _ _ ∙ len,
      places-next c.args.numbers.now c.requires.rising c.args.span c.requires.span c.loop-place.places.items
          c.loop-place.place c.loop-place-test.true len h,
    )

pub bounds-numbers-0 : goal.bounds-numbers-0
bounds-numbers-0 c = c.requires.span.some

pub loop-place-init : goal.loop-place-init
loop-place-init c =
    let len = c.in_ok-places.ensures.len in
    let long = c.in_ok-places.places.ok.0 in
    (refl, omega (arith, len, long), λ k l. absurd (omega (arith, l)))

pub overflow_cast-place : goal.overflow_cast-place
overflow_cast-place c =
    let few = c.requires.span.few in
    let below = c.loop-place-test.true in
    omega (arith, few, below)

pub overflow_sub-number : goal.overflow_sub-number
overflow_sub-number c = (span-within c.args.numbers.now c.requires.rising c.args.span c.requires.span c.loop-place.place c.loop-place-test.true).0

pub index_mut-requires : goal.index_mut-requires
index_mut-requires c =
    let at = span-within c.args.numbers.now c.requires.rising c.args.span c.requires.span c.loop-place.place c.loop-place-test.true in
    let len = c.loop-place.invariant.1 in
    let long = c.loop-place.places.ok.0 in
    omega (arith, at, len, long)

pub returns : goal.returns
returns c = λ k within.
    let at = span-within c.args.numbers.now c.requires.rising c.args.span c.requires.span k within in
    let len = c.loop-place.invariant.1 in
    let end = c.loop-place-test.false in
    (at.0, omega (arith, at, len), c.loop-place.invariant.2 k (omega (arith, within, end)))
