use Rattle.std.proofs.Common.{◌+◌, ◌^◌, refl, rules, w32, arith, FitsSigned}
use Rattle.std.proofs.lemmas.Int.{to_z-of_z, ints}
use Rattle.std.proofs.lemmas.Result.{IfOk-weaker, IfOk-from_err}
use Rattle.dpl_sweep.proofs.BandLaws.{small-more}
use Rattle.dpl_sweep.proofs.RowLaws.{missed, spanned, parted-swept}
use Rattle.std.proofs.lemmas.Bool.{false≢true}
use Rattle.dpl_sweep.proofs.step.+parted.Goals as goal

pub returns-then-misses-clause-sweeps : goal.returns-then-misses-clause-sweeps
returns-then-misses-clause-sweeps t c =
    missed _ _ _ _ _ _ (rw (to_z-of_z w32 c.args.low c.ranges.low, to_z-of_z w32 c.args.high c.ranges.high) at c.if-misses.ensures.yes refl)

pub returns-then-spans-clause-sweeps : goal.returns-then-spans-clause-sweeps
returns-then-spans-clause-sweeps t c =
    let across = rw (to_z-of_z w32 c.args.low c.ranges.low, to_z-of_z w32 c.args.high c.ranges.high) at c.if-spans.ensures.0 refl in
    spanned _ _ _ _ c.args.run _ _ _ c.requires.order across.0 across.1 c.requires.rows
    (rw (to_z-of_z w32 c.args.low c.ranges.low, to_z-of_z w32 c.args.high c.ranges.high) at c.in_ok-new.ensures)

pub join-requires-clause-below : goal.join-requires-clause-below
join-requires-clause-below t c = small-more (c.args.count + 1) (2 ^ 62) _ (omega (arith, c.requires.room)) c.in_ok-below.ensures.sums

pub join-requires-clause-above : goal.join-requires-clause-above
join-requires-clause-above t c = small-more (c.args.count + 1) (2 ^ 62) _ (omega (arith, c.requires.room)) c.in_ok-above.ensures.sums

pub returns-clause-sweeps : goal.returns-clause-sweeps
returns-clause-sweeps t c =
    let r : FitsSigned w32 c.end_inside-row.result = search rules in
    let low_rows = rw (to_z-of_z w32 c.args.low c.ranges.low, to_z-of_z w32 c.end_inside-row.result r) at c.in_ok-below.ensures.rows in
    let high_rows = rw (to_z-of_z w32 c.args.high c.ranges.high, to_z-of_z w32 c.end_inside-row.result r) at c.in_ok-above.ensures.rows in
    let below = rw (to_z-of_z w32 c.args.low c.ranges.low, to_z-of_z w32 c.end_inside-row.result r) at c.in_ok-below.ensures.sweeps in
    let above = rw (to_z-of_z w32 c.args.high c.ranges.high, to_z-of_z w32 c.end_inside-row.result r) at c.in_ok-above.ensures.sweeps in
    let over = rw (to_z-of_z w32 c.args.low c.ranges.low) at c.end_inside-row.ensures.above in
    let under = rw (to_z-of_z w32 c.args.high c.ranges.high) at c.end_inside-row.ensures.below in
    let tree = rw (to_z-of_z w32 c.end_inside-row.result r) at c.join.ensures in
    IfOk-weaker c.join.result _ _
    (λ new is. (parted-swept _ _ _ c.end_inside-row.result _ (c.args.count + 1) c.args.run _ _ new _ _ _ over under below above low_rows high_rows
    c.in_ok-below.ensures.sums c.in_ok-above.ensures.sums is).0) tree

pub returns-clause-rows : goal.returns-clause-rows
returns-clause-rows t c =
    let r : FitsSigned w32 c.end_inside-row.result = search rules in
    let low_rows = rw (to_z-of_z w32 c.args.low c.ranges.low, to_z-of_z w32 c.end_inside-row.result r) at c.in_ok-below.ensures.rows in
    let high_rows = rw (to_z-of_z w32 c.args.high c.ranges.high, to_z-of_z w32 c.end_inside-row.result r) at c.in_ok-above.ensures.rows in
    let below = rw (to_z-of_z w32 c.args.low c.ranges.low, to_z-of_z w32 c.end_inside-row.result r) at c.in_ok-below.ensures.sweeps in
    let above = rw (to_z-of_z w32 c.args.high c.ranges.high, to_z-of_z w32 c.end_inside-row.result r) at c.in_ok-above.ensures.sweeps in
    let over = rw (to_z-of_z w32 c.args.low c.ranges.low) at c.end_inside-row.ensures.above in
    let under = rw (to_z-of_z w32 c.args.high c.ranges.high) at c.end_inside-row.ensures.below in
    let tree = rw (to_z-of_z w32 c.end_inside-row.result r) at c.join.ensures in
    IfOk-weaker c.join.result _ _
    (λ new is. (parted-swept _ _ _ c.end_inside-row.result _ (c.args.count + 1) c.args.run _ _ new _ _ _ over under below above low_rows high_rows
    c.in_ok-below.ensures.sums c.in_ok-above.ensures.sums is).1) tree

pub returns-clause-sums : goal.returns-clause-sums
returns-clause-sums t c =
    let r : FitsSigned w32 c.end_inside-row.result = search rules in
    let low_rows = rw (to_z-of_z w32 c.args.low c.ranges.low, to_z-of_z w32 c.end_inside-row.result r) at c.in_ok-below.ensures.rows in
    let high_rows = rw (to_z-of_z w32 c.args.high c.ranges.high, to_z-of_z w32 c.end_inside-row.result r) at c.in_ok-above.ensures.rows in
    let below = rw (to_z-of_z w32 c.args.low c.ranges.low, to_z-of_z w32 c.end_inside-row.result r) at c.in_ok-below.ensures.sweeps in
    let above = rw (to_z-of_z w32 c.args.high c.ranges.high, to_z-of_z w32 c.end_inside-row.result r) at c.in_ok-above.ensures.sweeps in
    let over = rw (to_z-of_z w32 c.args.low c.ranges.low) at c.end_inside-row.ensures.above in
    let under = rw (to_z-of_z w32 c.args.high c.ranges.high) at c.end_inside-row.ensures.below in
    let tree = rw (to_z-of_z w32 c.end_inside-row.result r) at c.join.ensures in
    IfOk-weaker c.join.result _ _
    (λ new is. (parted-swept _ _ _ c.end_inside-row.result _ (c.args.count + 1) c.args.run _ _ new _ _ _ over under below above low_rows high_rows
    c.in_ok-below.ensures.sums c.in_ok-above.ensures.sums is).2) tree

pub returns-in_err-new-clause-sweeps : goal.returns-in_err-new-clause-sweeps
returns-in_err-new-clause-sweeps t c = IfOk-from_err _ _ c.from_residual.ensures.0

pub returns-in_err-new-clause-rows : goal.returns-in_err-new-clause-rows
returns-in_err-new-clause-rows t c = IfOk-from_err _ _ c.from_residual.ensures.0

pub returns-in_err-new-clause-sums : goal.returns-in_err-new-clause-sums
returns-in_err-new-clause-sums t c = IfOk-from_err _ _ c.from_residual.ensures.0

pub returns-in_err-below-clause-sweeps : goal.returns-in_err-below-clause-sweeps
returns-in_err-below-clause-sweeps t c = IfOk-from_err _ _ c.from_residual-in_err-below.ensures.0

pub returns-in_err-below-clause-rows : goal.returns-in_err-below-clause-rows
returns-in_err-below-clause-rows t c = IfOk-from_err _ _ c.from_residual-in_err-below.ensures.0

pub returns-in_err-below-clause-sums : goal.returns-in_err-below-clause-sums
returns-in_err-below-clause-sums t c = IfOk-from_err _ _ c.from_residual-in_err-below.ensures.0

pub returns-in_err-above-clause-sweeps : goal.returns-in_err-above-clause-sweeps
returns-in_err-above-clause-sweeps t c = IfOk-from_err _ _ c.from_residual-in_err-above.ensures.0

pub returns-in_err-above-clause-rows : goal.returns-in_err-above-clause-rows
returns-in_err-above-clause-rows t c = IfOk-from_err _ _ c.from_residual-in_err-above.ensures.0

pub returns-in_err-above-clause-sums : goal.returns-in_err-above-clause-sums
returns-in_err-above-clause-sums t c = IfOk-from_err _ _ c.from_residual-in_err-above.ensures.0

pub returns-then-misses-clause-rows : goal.returns-then-misses-clause-rows
returns-then-misses-clause-rows t c = c.requires.rows

pub returns-then-misses-clause-sums : goal.returns-then-misses-clause-sums
returns-then-misses-clause-sums t c = let (a, b) = c.requires.sums in (omega (arith, a), omega (arith, b))

pub moved-requires-clause-first : goal.moved-requires-clause-first
moved-requires-clause-first t c =
    let (a, b) = c.requires.sums in
    let (sa, sb) = c.requires.small in
    omega (arith, a, sa, c.requires.room)

pub moved-requires-clause-second : goal.moved-requires-clause-second
moved-requires-clause-second t c =
    let (a, b) = c.requires.sums in
    let (sa, sb) = c.requires.small in
    omega (arith, b, sb, c.requires.room)

pub returns-then-spans-clause-rows : goal.returns-then-spans-clause-rows
returns-then-spans-clause-rows t c = let at = c.in_ok-new.ensures.at in omega (arith, ints, at)

pub returns-then-spans-clause-sums : goal.returns-then-spans-clause-sums
returns-then-spans-clause-sums t c =
    let (a, b) = c.requires.sums in
    let (sa, sb) = c.requires.small in
    let na = c.in_ok-new.ensures.a in
    let nb = c.in_ok-new.ensures.b in
    (omega (arith, ints, na, a, sa), omega (arith, ints, nb, b, sb))

pub end_inside-row-requires-clause-meets : goal.end_inside-row-requires-clause-meets
end_inside-row-requires-clause-meets t c = c.if-misses.ensures.no refl

pub end_inside-row-requires-clause-part : goal.end_inside-row-requires-clause-part
end_inside-row-requires-clause-part t c = λ k. false≢true (c.if-spans.ensures.1 k)
