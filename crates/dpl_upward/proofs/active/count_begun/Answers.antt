use Rattle.std.proofs.Common.{◌<◌, length, get_or, rules, w32, FitsSigned, arith}
use Rattle.std.specs.Prelude.{pos}
use Rattle.std.proofs.lemmas.Int.{ints, to_z-of_z}
use Rattle.std.proofs.lemmas.List.{get_or_default}
use Rattle.dpl_spec_split.specs.declared.Rect.{Rect}
use Rattle.dpl_upward.proofs.ActiveLaws.{begun-more, above-here, nothing}
use Rattle.dpl_upward.proofs.active.count_begun.Goals as goal

abbrev zero : Rect
zero = record { x0 = pos 0; y0 = pos 0; x1 = pos 0; y1 = pos 0 }

pub returns-then-low-rects-clause-above : goal.returns-then-low-rects-clause-above
returns-then-low-rects-clause-above c =
    let here : c.loop-i.i < length c.args.rects.now = search rules in
    let r : Rect = get_or c.args.rects.now c.loop-i.i zero in
    let fits : FitsSigned w32 r.y0 = search rules in
    let row = to_z-of_z w32 c.args.low c.ranges.low in
    let test = rw (row, to_z-of_z w32 r.y0 fits) at c.if-low-rects.true in
    above-here c.args.rects.now c.loop-i.i r here (get_or_default c.args.rects.now c.loop-i.i zero r here) c.args.low c.requires (grind (arith, ints, test))

pub loop-i-preserved : goal.loop-i-preserved
loop-i-preserved c =
    let here : c.loop-i.i < length c.args.rects.now = search rules in
    let r : Rect = get_or c.args.rects.now c.loop-i.i zero in
    let fits : FitsSigned w32 r.y0 = search rules in
    let row = to_z-of_z w32 c.args.low c.ranges.low in
    let test = rw (row, to_z-of_z w32 r.y0 fits) at c.if-low-rects.false in
    rw row (begun-more c.args.rects.now c.loop-i.i r here (get_or_default c.args.rects.now c.loop-i.i zero r here) c.args.low (grind (arith, ints, test)) (rw row at c.loop-i.invariant))

pub loop-i-init : goal.loop-i-init
loop-i-init c r r_in = nothing r r_in

pub returns-then-low-rects-clause-begun : goal.returns-then-low-rects-clause-begun
returns-then-low-rects-clause-begun c = rw (to_z-of_z w32 c.args.low c.ranges.low) at c.loop-i.invariant
