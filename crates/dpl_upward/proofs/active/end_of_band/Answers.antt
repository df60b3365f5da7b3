use Rattle.std.proofs.Common.{◌<◌, length, get_or, rules, w32, FitsSigned, arith, ◌≡◌}
use Rattle.std.specs.Prelude.{pos, ℤ, ◌<ℤ◌}
use Rattle.std.proofs.lemmas.Int.{ints, to_z-of_z}
use Rattle.std.proofs.lemmas.List.{get_or_default}
use Rattle.dpl_spec_split.specs.declared.Rect.{Rect}
use Rattle.dpl_upward.proofs.ActiveLaws.{first-lowest}
use Rattle.std.specs.Int.{int_min}
use Rattle.dpl_upward.proofs.active.end_of_band.Goals as goal

abbrev zero : Rect
zero = record { x0 = pos 0; y0 = pos 0; x1 = pos 0; y1 = pos 0 }

pub returns-clause-ends : goal.returns-clause-ends
returns-clause-ends c r r_in =
    let m : FitsSigned w32 c.min.result = record { sfits = c.min.type_inv } in
    let h : FitsSigned w32 c.lowest_end-high.result = record { sfits = c.lowest_end-high.type_inv } in
    let least = rw (to_z-of_z w32 c.lowest_end-high.result h) at c.min.ensures.self_bound in
    let end = c.lowest_end-high.ensures.ends r r_in in
    rw (to_z-of_z w32 c.min.result m) (omega (arith, ints, least, end))

pub returns-clause-begins : goal.returns-clause-begins
returns-clause-begins c r r_in =
    let above = c.args.above.now in
    let some : 0 < length above = (let h = c.is_empty.ensures in let g = c.if-is_empty.false in grind (arith, h, g)) in
    let first : Rect = get_or above 0 zero in
    let m : FitsSigned w32 c.min.result = record { sfits = c.min.type_inv } in
    let f : FitsSigned w32 first.y0 = search rules in
    let least = rw (to_z-of_z w32 first.y0 f) at c.min.ensures.other_bound in
    let lowest = first-lowest above first r some (get_or_default above 0 zero first some) c.requires.rise r_in in
    rw (to_z-of_z w32 c.min.result m) (omega (arith, ints, least, lowest))

least-above : (low a b m : ℤ) → m ≡ int_min a b → low <ℤ a → low <ℤ b → low <ℤ m
least-above low a b m e f g = grind (arith, ints, e, f, g)

pub lowest_end-high-requires-clause-order : goal.lowest_end-high-requires-clause-order
lowest_end-high-requires-clause-order c = rw (to_z-of_z w32 c.args.low c.ranges.low, to_z-of_z w32 c.args.top c.ranges.top) c.requires.order

pub lowest_end-high-requires-clause-active : goal.lowest_end-high-requires-clause-active
lowest_end-high-requires-clause-active c = rw (to_z-of_z w32 c.args.low c.ranges.low) c.requires.active

pub returns-then-is_empty-clause-above : goal.returns-then-is_empty-clause-above
returns-then-is_empty-clause-above c =
    let h : FitsSigned w32 c.lowest_end-high.result = record { sfits = c.lowest_end-high.type_inv } in
    rw (to_z-of_z w32 c.lowest_end-high.result h) (rw (to_z-of_z w32 c.args.low c.ranges.low) at c.lowest_end-high.ensures.above)

pub returns-then-is_empty-clause-below : goal.returns-then-is_empty-clause-below
returns-then-is_empty-clause-below c =
    let h : FitsSigned w32 c.lowest_end-high.result = record { sfits = c.lowest_end-high.type_inv } in
    rw (to_z-of_z w32 c.lowest_end-high.result h) (rw (to_z-of_z w32 c.args.top c.ranges.top) at c.lowest_end-high.ensures.below)

pub returns-then-is_empty-clause-ends : goal.returns-then-is_empty-clause-ends
returns-then-is_empty-clause-ends c =
    let h : FitsSigned w32 c.lowest_end-high.result = record { sfits = c.lowest_end-high.type_inv } in
    rw (to_z-of_z w32 c.lowest_end-high.result h) c.lowest_end-high.ensures.ends

pub bounds-above-0 : goal.bounds-above-0
bounds-above-0 c = let h = c.is_empty.ensures in let g = c.if-is_empty.false in grind (arith, h, g)

pub returns-clause-above : goal.returns-clause-above
returns-clause-above c =
    let above = c.args.above.now in
    let some : 0 < length above = (let h = c.is_empty.ensures in let g = c.if-is_empty.false in grind (arith, h, g)) in
    let first : Rect = get_or above 0 zero in
    let m : FitsSigned w32 c.min.result = record { sfits = c.min.type_inv } in
    let h : FitsSigned w32 c.lowest_end-high.result = record { sfits = c.lowest_end-high.type_inv } in
    let f : FitsSigned w32 first.y0 = search rules in
    let low = rw (to_z-of_z w32 c.args.low c.ranges.low) at c.lowest_end-high.ensures.above in
    let least = rw (to_z-of_z w32 c.lowest_end-high.result h, to_z-of_z w32 first.y0 f) at c.min.ensures.value in
    rw (to_z-of_z w32 c.min.result m)
    (least-above _ _ _ _ least low (c.requires.others first (0, some, get_or_default above 0 first zero some)))

pub returns-clause-below : goal.returns-clause-below
returns-clause-below c =
    let m : FitsSigned w32 c.min.result = record { sfits = c.min.type_inv } in
    let h : FitsSigned w32 c.lowest_end-high.result = record { sfits = c.lowest_end-high.type_inv } in
    let least = rw (to_z-of_z w32 c.lowest_end-high.result h) at c.min.ensures.self_bound in
    let top = rw (to_z-of_z w32 c.args.top c.ranges.top) at c.lowest_end-high.ensures.below in
    rw (to_z-of_z w32 c.min.result m) (omega (arith, ints, least, top))
