use Rattle.std.proofs.Common.{◌<◌, length, get_or, rules, w32, FitsSigned, arith}
use Rattle.std.specs.Prelude.{pos}
use Rattle.std.proofs.lemmas.Int.{ints, to_z-of_z}
use Rattle.std.proofs.lemmas.List.{get_or_default}
use Rattle.dpl_spec_split.specs.declared.Rect.{Rect}
use Rattle.dpl_upward.proofs.ActiveLaws.{active-none}
use Rattle.dpl_upward.proofs.FrontLaws.{up-to-none}
use Rattle.dpl_upward.proofs.UpwardLaws.{swept-first, swept-all}
use Rattle.std.proofs.lemmas.Result.{IfOk-from_err}
use Rattle.dpl_upward.proofs.upward.pieces_upward.Goals as goal

abbrev zero : Rect
zero = record { x0 = pos 0; y0 = pos 0; x1 = pos 0; y1 = pos 0 }

pub loop-low-init : goal.loop-low-init
loop-low-init c =
    let rects = c.args.rects.now in
    let some : 0 < length rects = (let h = c.is_empty.ensures in let g = c.if-is_empty.false in grind (arith, h, g)) in
    let first : Rect = get_or rects 0 zero in
    let fits : FitsSigned w32 first.y0 = search rules in
    let none = c.in_ok-sweep.ensures in
    record {
      swept = rw (to_z-of_z w32 first.y0 fits, none.pieces) (swept-first rects c.args.holes.now first some (get_or_default rects 0 zero first some) c.requires.rects);
      front = rw (none.pieces, none.here) (up-to-none _);
      bars = rw (none.bars.0, none.bars.1) (active-none _ rects);
      gaps = rw (none.gaps.0, none.gaps.1) (active-none _ c.args.holes.now);
    }

pub sweep_band-requires-clause-order : goal.sweep_band-requires-clause-order
sweep_band-requires-clause-order c =
    let h = c.loop-low-test.true in omega (arith, ints, h)

pub sweep_band-requires-clause-rects : goal.sweep_band-requires-clause-rects
sweep_band-requires-clause-rects c = c.requires.rects

pub sweep_band-requires-clause-holes : goal.sweep_band-requires-clause-holes
sweep_band-requires-clause-holes c = c.requires.holes

pub sweep_band-requires-clause-swept : goal.sweep_band-requires-clause-swept
sweep_band-requires-clause-swept c = c.loop-low.invariant

pub loop-low-preserved : goal.loop-low-preserved
loop-low-preserved c =
    let fits : FitsSigned w32 c.in_ok-low.low = search rules in
    rw (to_z-of_z w32 c.in_ok-low.low fits) c.in_ok-low.ensures.swept

pub returns : goal.returns
returns c =
    let top : FitsSigned w32 c.top_of-top.result = record { sfits = c.top_of-top.type_inv } in
    let over = rw (to_z-of_z w32 c.top_of-top.result top) at c.loop-low-test.false in
    let swept = c.loop-low.invariant in
    swept-all _ _ _ _ _ swept.swept swept.front c.top_of-top.result (grind (arith, ints, over)) c.top_of-top.ensures

pub returns-then-steps-saturating_add : goal.returns-then-steps-saturating_add
returns-then-steps-saturating_add c = tt

pub returns-in_err-sweep : goal.returns-in_err-sweep
returns-in_err-sweep c = IfOk-from_err _ _ c.from_residual.ensures.0

pub returns-in_err-low : goal.returns-in_err-low
returns-in_err-low c = IfOk-from_err _ _ c.from_residual-in_err-low.ensures.0
