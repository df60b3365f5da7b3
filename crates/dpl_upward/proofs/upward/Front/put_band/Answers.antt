use Rattle.std.proofs.Common.{◌≡◌, ◌<◌, length, get_or, refl, rules, w32, FitsSigned, arith}
use Rattle.std.specs.Prelude.{pos, ◌+ℤ◌, ◌<ℤ◌}
use Rattle.std.proofs.lemmas.Bool.{false≢true}
use Rattle.std.proofs.lemmas.Int.{ints, by_lt_z, to_z-of_z}
use Rattle.std.proofs.lemmas.List.{get_or_default, nil_from_length}
use Rattle.dpl_spec_split.specs.declared.Rect.{Rect}
use Rattle.dpl_upward.proofs.FrontLaws.{front-first}
use Rattle.dpl_upward.proofs.UpwardLaws.{bar-across, passed-none, passed-on, put-first, put-next, put-wider, put-all, put-none, bar_solid}
use Rattle.std.proofs.lemmas.Result.{IfOk-from_err}
use Rattle.dpl_upward.proofs.upward.Front.put_band.Goals.{then-is_right+in_ok-passed, else-is_right}
use Rattle.dpl_upward.proofs.upward.Front.put_band.Goals as goal

abbrev zero : Rect
zero = record { x0 = pos 0; y0 = pos 0; x1 = pos 0; y1 = pos 0 }

pub returns-then-is_empty-clause-here : goal.returns-then-is_empty-clause-here
returns-then-is_empty-clause-here c =
    let front = c.args.self.now in
    rw (c.rise.ensures.pieces, c.rise.ensures.here) (front-first c.args.low c.args.high front.pieces.items front.here.items c.requires.order c.requires.below c.args.low).here

pub loop-i-init : goal.loop-i-init
loop-i-init c =
    let active = c.args.active.now in
    let some : 0 < length active = (let h = c.is_empty.ensures in let g = c.if-is_empty.false in grind (arith, h, g)) in
    let first : Rect = get_or active 0 zero in
    let row = to_z-of_z w32 c.args.low c.ranges.low in
    let high = to_z-of_z w32 c.args.high c.ranges.high in
    let bar = rw (row, high) at c.bar_of-bar.ensures in
    let left : FitsSigned w32 c.bar_of-bar.result.x0 = search rules in
    let front = c.args.self.now in
    record {
      put = rw (row, high, bar) (put-first c.args.low c.args.high active c.args.gaps.now c.requires.order c.requires.rise c.requires.across c.rise.new.self.pieces.items first some
          (get_or_default active 0 zero first some));
      passed = rw (to_z-of_z w32 c.bar_of-bar.result.x0 left) (passed-none c.bar_of-bar.result c.args.gaps.now);
      front = rw (row, high, c.rise.ensures.pieces, c.rise.ensures.below, c.rise.ensures.passed, c.rise.ensures.here)
          (front-first c.args.low c.args.high front.pieces.items front.here.items c.requires.order c.requires.below c.bar_of-bar.result.x0);
    }

pub put_without-requires-clause-across : goal.put_without-requires-clause-across
put_without-requires-clause-across c =
    let row = to_z-of_z w32 c.args.low c.ranges.low in
    let high = to_z-of_z w32 c.args.high c.ranges.high in
    bar-across _ _ _ _ c.requires.order c.requires.rise c.requires.across _ _ _ _ (rw (row, high) at c.loop-i.invariant.put) c.requires.gaps_across

pub put_without-requires-clause-front : goal.put_without-requires-clause-front
put_without-requires-clause-front c =
    let row = to_z-of_z w32 c.args.low c.ranges.low in
    let high = to_z-of_z w32 c.args.high c.ranges.high in
    let before = rw (row, high) at c.loop-i.invariant.put in
    rw (before.first, before.last) (rw (row, high) at c.loop-i.invariant.front)

pub loop-i-preserved : goal.loop-i-preserved
loop-i-preserved c =
    let active = c.args.active.now in
    let gaps = c.args.gaps.now in
    let here : c.loop-i.i < length active = search rules in
    let r : Rect = get_or active c.loop-i.i zero in
    let r_is = get_or_default active c.loop-i.i zero r here in
    let row = to_z-of_z w32 c.args.low c.ranges.low in
    let high = to_z-of_z w32 c.args.high c.ranges.high in
    let before = rw (row, high) at c.loop-i.invariant.put in
    elim c.if-is_right.branch [
      | then-is_right+in_ok-passed w ↦
          (let bar = rw (row, high) at w.bar_of-bar-then-is_right.ensures in
          let right = w.if-is_right.ensures.0 refl in
          let first = before.first in
          let last = before.last in
          let front = rw (first, last) at w.in_ok-passed.ensures.front in
          record {
            put = rw (row, high, w.self-is, w.bar-is, bar) (put-next c.args.low c.args.high active gaps c.requires.order c.requires.rise c.requires.across c.loop-i.i _ _ c.loop-i.bar
                before r here r_is _ w.in_ok-passed.ensures.adds);
            passed = rw (w.passed-is, w.bar-is, bar) (passed-on c.loop-i.bar _ gaps _ _ _ _ (omega (arith, ints, first)) (omega (arith, ints, last)) (omega (arith, ints, right))
                w.in_ok-passed.ensures.passed);
            front = rw (row, high, w.self-is, w.bar-is, bar) (front r.x0 right);
          })
      | else-is_right w ↦
          (let meets = w.if-is_right.ensures.1 in
          let wider = w.widened-bar.ensures in
          let left = wider.left in
          record {
            put = rw (row, high, w.self-is, w.bar-is) (put-wider c.args.low c.args.high active gaps c.requires.order c.requires.rise c.requires.across c.loop-i.i _ _ c.loop-i.bar
                before r here r_is _ wider (by_lt_z c.loop-i.bar.x1 r.x0 (λ l. absurd (false≢true (meets l))) (λ m. m)));
            passed = rw (w.passed-is, w.bar-is) (passed-on c.loop-i.bar _ gaps _ _ _ _ wider.low wider.high (omega (arith, ints, left)) c.loop-i.invariant.passed);
            front = rw (row, high, w.self-is, w.bar-is, left) (rw (row, high) at c.loop-i.invariant.front);
          })
    ]

pub put_without-requires-2-clause-across : goal.put_without-requires-2-clause-across
put_without-requires-2-clause-across c =
    let row = to_z-of_z w32 c.args.low c.ranges.low in
    let high = to_z-of_z w32 c.args.high c.ranges.high in
    bar-across _ _ _ _ c.requires.order c.requires.rise c.requires.across _ _ _ _ (rw (row, high) at c.loop-i.invariant.put) c.requires.gaps_across

pub put_without-requires-2-clause-front : goal.put_without-requires-2-clause-front
put_without-requires-2-clause-front c =
    let row = to_z-of_z w32 c.args.low c.ranges.low in
    let high = to_z-of_z w32 c.args.high c.ranges.high in
    let before = rw (row, high) at c.loop-i.invariant.put in
    rw (before.first, before.last) (rw (row, high) at c.loop-i.invariant.front)

pub returns-clause-adds : goal.returns-clause-adds
returns-clause-adds c =
    let row = to_z-of_z w32 c.args.low c.ranges.low in
    let high = to_z-of_z w32 c.args.high c.ranges.high in
    let before = rw (row, high, c.rise.ensures.pieces) at c.loop-i.invariant.put in
    put-all c.args.low c.args.high c.args.active.now c.args.gaps.now c.requires.order c.requires.rise c.requires.across c.loop-i.i _ _ c.loop-i.bar before _ (omega arith)
    c.in_ok-put_without.ensures.adds

pub returns-clause-here : goal.returns-clause-here
returns-clause-here c =
    let row = to_z-of_z w32 c.args.low c.ranges.low in
    let high = to_z-of_z w32 c.args.high c.ranges.high in
    let before = rw (row, high) at c.loop-i.invariant.put in
    let next : c.loop-i.bar.x1 <ℤ (c.loop-i.bar.x1 +ℤ pos 1) = omega (arith, ints) in
    rw before.last at (c.in_ok-put_without.ensures.front (c.loop-i.bar.x1 +ℤ pos 1) next).here

pub bounds-active-0 : goal.bounds-active-0
bounds-active-0 c = let h = c.is_empty.ensures in let g = c.if-is_empty.false in grind (arith, h, g)

pub bounds-active-i : goal.bounds-active-i
bounds-active-i c = c.loop-i-test.true

pub bounds-active-i-then-is_right : goal.bounds-active-i-then-is_right
bounds-active-i-then-is_right c = c.loop-i-test.true

pub bounds-active-i-else-is_right : goal.bounds-active-i-else-is_right
bounds-active-i-else-is_right c = c.loop-i-test.true

pub put_without-requires-clause-solid : goal.put_without-requires-clause-solid
put_without-requires-clause-solid c =
    let row = to_z-of_z w32 c.args.low c.ranges.low in
    let high = to_z-of_z w32 c.args.high c.ranges.high in
    bar_solid _ _ _ _ c.requires.order c.requires.rise c.requires.across _ _ _ _ (rw (row, high) at c.loop-i.invariant.put)

pub put_without-requires-clause-rise : goal.put_without-requires-clause-rise
put_without-requires-clause-rise c = c.requires.gaps_rise

pub put_without-requires-clause-passed : goal.put_without-requires-clause-passed
put_without-requires-clause-passed c = c.loop-i.invariant.passed

pub put_without-requires-2-clause-solid : goal.put_without-requires-2-clause-solid
put_without-requires-2-clause-solid c =
    let row = to_z-of_z w32 c.args.low c.ranges.low in
    let high = to_z-of_z w32 c.args.high c.ranges.high in
    bar_solid _ _ _ _ c.requires.order c.requires.rise c.requires.across _ _ _ _ (rw (row, high) at c.loop-i.invariant.put)

pub put_without-requires-2-clause-rise : goal.put_without-requires-2-clause-rise
put_without-requires-2-clause-rise c = c.requires.gaps_rise

pub put_without-requires-2-clause-passed : goal.put_without-requires-2-clause-passed
put_without-requires-2-clause-passed c = c.loop-i.invariant.passed

pub returns-then-is_empty-clause-adds : goal.returns-then-is_empty-clause-adds
returns-then-is_empty-clause-adds c =
    let none : length c.args.active.now ≡ 0 = (let h = c.is_empty.ensures in let g = c.if-is_empty.true in grind (arith, h, g)) in
    rw c.rise.ensures.pieces (put-none _ _ _ _ c.requires.order _ (nil_from_length c.args.active.now none))

pub returns-in_err-passed-clause-adds : goal.returns-in_err-passed-clause-adds
returns-in_err-passed-clause-adds c = IfOk-from_err _ _ c.from_residual.ensures.0

pub returns-in_err-passed-clause-here : goal.returns-in_err-passed-clause-here
returns-in_err-passed-clause-here c = IfOk-from_err _ _ c.from_residual.ensures.0

pub returns-in_err-put_without-clause-adds : goal.returns-in_err-put_without-clause-adds
returns-in_err-put_without-clause-adds c = IfOk-from_err _ _ c.from_residual-in_err-put_without.ensures.0

pub returns-in_err-put_without-clause-here : goal.returns-in_err-put_without-clause-here
returns-in_err-put_without-clause-here c = IfOk-from_err _ _ c.from_residual-in_err-put_without.ensures.0
