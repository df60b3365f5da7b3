use Rattle.std.proofs.Common.{w32, FitsSigned, arith}
use Rattle.std.proofs.lemmas.Int.{ints, to_z-of_z}
use Rattle.std.proofs.lemmas.Result.{IfOk-from_err}
use Rattle.dpl_upward.proofs.ActiveLaws.{active-next, fills-lower}
use Rattle.dpl_upward.proofs.UpwardLaws.{swept-next}
use Rattle.dpl_upward.proofs.upward.Sweep.sweep_band.Goals as goal

pub begin-requires-clause-rise : goal.begin-requires-clause-rise
begin-requires-clause-rise c = c.requires.rects

pub begin-requires-clause-active : goal.begin-requires-clause-active
begin-requires-clause-active c = rw (to_z-of_z w32 c.args.low c.ranges.low) c.requires.swept.bars

pub begin-requires-2-clause-rise : goal.begin-requires-2-clause-rise
begin-requires-2-clause-rise c = c.requires.holes

pub begin-requires-2-clause-active : goal.begin-requires-2-clause-active
begin-requires-2-clause-active c = rw (to_z-of_z w32 c.args.low c.ranges.low) c.requires.swept.gaps

pub end-end-requires-clause-order : goal.end-end-requires-clause-order
end-end-requires-clause-order c = rw (to_z-of_z w32 c.args.low c.ranges.low, to_z-of_z w32 c.args.top c.ranges.top) c.requires.order

pub end-end-requires-clause-rise : goal.end-end-requires-clause-rise
end-end-requires-clause-rise c = c.requires.rects

pub end-end-requires-clause-begun : goal.end-end-requires-clause-begun
end-end-requires-clause-begun c = c.in_ok-begin.ensures

pub end-high-requires-clause-order : goal.end-high-requires-clause-order
end-high-requires-clause-order c =
    let end : FitsSigned w32 c.end-end.result = record { sfits = c.end-end.type_inv } in
    rw (to_z-of_z w32 c.end-end.result end) c.end-end.ensures.above

pub end-high-requires-clause-rise : goal.end-high-requires-clause-rise
end-high-requires-clause-rise c = c.requires.holes

pub end-high-requires-clause-begun : goal.end-high-requires-clause-begun
end-high-requires-clause-begun c = c.in_ok-begin-2.ensures

pub put_band-requires-clause-order : goal.put_band-requires-clause-order
put_band-requires-clause-order c =
    let high : FitsSigned w32 c.end-high.result = record { sfits = c.end-high.type_inv } in
    rw (to_z-of_z w32 c.end-high.result high) c.end-high.ensures.above

pub put_band-requires-clause-rise : goal.put_band-requires-clause-rise
put_band-requires-clause-rise c = rw c.deref.ensures.value c.in_ok-begin.ensures.rise

pub put_band-requires-clause-gaps_rise : goal.put_band-requires-clause-gaps_rise
put_band-requires-clause-gaps_rise c = rw c.deref-2.ensures.value c.in_ok-begin-2.ensures.rise

pub put_band-requires-clause-across : goal.put_band-requires-clause-across
put_band-requires-clause-across c =
    let high : FitsSigned w32 c.end-high.result = record { sfits = c.end-high.type_inv } in
    let end : FitsSigned w32 c.end-end.result = record { sfits = c.end-end.type_inv } in
    let lower = rw (to_z-of_z w32 c.end-end.result end) at c.end-high.ensures.below in
    rw (to_z-of_z w32 c.end-high.result high, c.deref.ensures.value) (fills-lower _ _ _ _ _ lower c.end-end.ensures.fill).across

pub put_band-requires-clause-gaps_across : goal.put_band-requires-clause-gaps_across
put_band-requires-clause-gaps_across c =
    let high : FitsSigned w32 c.end-high.result = record { sfits = c.end-high.type_inv } in
    rw (to_z-of_z w32 c.end-high.result high, c.deref-2.ensures.value) c.end-high.ensures.fill.across

pub put_band-requires-clause-below : goal.put_band-requires-clause-below
put_band-requires-clause-below c = rw (to_z-of_z w32 c.args.low c.ranges.low) c.requires.swept.front

pub returns-clause-above : goal.returns-clause-above
returns-clause-above c =
    let high : FitsSigned w32 c.end-high.result = record { sfits = c.end-high.type_inv } in
    rw (to_z-of_z w32 c.end-high.result high) (rw (to_z-of_z w32 c.args.low c.ranges.low) at c.end-high.ensures.above)

pub returns-clause-below : goal.returns-clause-below
returns-clause-below c =
    let high : FitsSigned w32 c.end-high.result = record { sfits = c.end-high.type_inv } in
    let end : FitsSigned w32 c.end-end.result = record { sfits = c.end-end.type_inv } in
    let lower = rw (to_z-of_z w32 c.end-end.result end) at c.end-high.ensures.below in
    let upper = rw (to_z-of_z w32 c.args.top c.ranges.top) at c.end-end.ensures.below in
    rw (to_z-of_z w32 c.end-high.result high) (omega (arith, ints, lower, upper))

pub returns-clause-swept : goal.returns-clause-swept
returns-clause-swept c =
    let high : FitsSigned w32 c.end-high.result = record { sfits = c.end-high.type_inv } in
    let end : FitsSigned w32 c.end-end.result = record { sfits = c.end-end.type_inv } in
    let lower = rw (to_z-of_z w32 c.end-end.result end) at c.end-high.ensures.below in
    let row = to_z-of_z w32 c.args.low c.ranges.low in
    let above = rw row at c.end-high.ensures.above in
    let puts = rw (row, to_z-of_z w32 c.end-high.result high, c.deref.ensures.value, c.deref-2.ensures.value) at c.in_ok-put_band.ensures.adds in
    let fill = rw row at (fills-lower _ _ _ _ _ lower c.end-end.ensures.fill) in
    let gaps = rw row at c.end-high.ensures.fill in
    rw (to_z-of_z w32 c.end-high.result high) (record {
      swept = swept-next _ _ _ _ _ c.requires.swept.swept c.requires.swept.front c.end-high.result _ _ _ fill gaps puts;
      front = rw (to_z-of_z w32 c.end-high.result high) at c.in_ok-put_band.ensures.here;
      bars = active-next _ _ _ _ (rw row at c.in_ok-begin.ensures) c.end-high.result above;
      gaps = active-next _ _ _ _ (rw row at c.in_ok-begin-2.ensures) c.end-high.result above;
    })

pub returns-in_err-begin-clause-above : goal.returns-in_err-begin-clause-above
returns-in_err-begin-clause-above c = IfOk-from_err _ _ c.from_residual.ensures.0

pub returns-in_err-begin-clause-below : goal.returns-in_err-begin-clause-below
returns-in_err-begin-clause-below c = IfOk-from_err _ _ c.from_residual.ensures.0

pub returns-in_err-begin-clause-swept : goal.returns-in_err-begin-clause-swept
returns-in_err-begin-clause-swept c = IfOk-from_err _ _ c.from_residual.ensures.0

pub returns-in_err-begin-2-clause-above : goal.returns-in_err-begin-2-clause-above
returns-in_err-begin-2-clause-above c = IfOk-from_err _ _ c.from_residual-in_err-begin-2.ensures.0

pub returns-in_err-begin-2-clause-below : goal.returns-in_err-begin-2-clause-below
returns-in_err-begin-2-clause-below c = IfOk-from_err _ _ c.from_residual-in_err-begin-2.ensures.0

pub returns-in_err-begin-2-clause-swept : goal.returns-in_err-begin-2-clause-swept
returns-in_err-begin-2-clause-swept c = IfOk-from_err _ _ c.from_residual-in_err-begin-2.ensures.0

pub returns-in_err-put_band-clause-above : goal.returns-in_err-put_band-clause-above
returns-in_err-put_band-clause-above c = IfOk-from_err _ _ c.from_residual-in_err-put_band.ensures.0

pub returns-in_err-put_band-clause-below : goal.returns-in_err-put_band-clause-below
returns-in_err-put_band-clause-below c = IfOk-from_err _ _ c.from_residual-in_err-put_band.ensures.0

pub returns-in_err-put_band-clause-swept : goal.returns-in_err-put_band-clause-swept
returns-in_err-put_band-clause-swept c = IfOk-from_err _ _ c.from_residual-in_err-put_band.ensures.0
