use Rattle.std.proofs.Common.{◌<◌, length, get_or, rules, w32, FitsSigned, arith}
use Rattle.std.proofs.lemmas.Int.{to_z-of_z}
use Rattle.std.proofs.lemmas.List.{get_or_default}
use Rattle.dpl_spec_split.specs.declared.Rect.{Rect}
use Rattle.dpl_slabs.proofs.Firsts.{zero}
use Rattle.dpl_slabs.proofs.StripLaws.{open-first, open-next, gap-here, gap-none, lt-from, le-from, max-known}
use Rattle.dpl_slabs.proofs.strips.strip_length.Goals as goal

pub loop-i-init : goal.loop-i-init
loop-i-init c =
    let first : Rect = get_or c.args.rects.now 0 zero in
    let fits : FitsSigned w32 first.y1 = search rules in
    rw (to_z-of_z w32 first.y1 fits) (open-first c.args.rects.now first c.requires.some (get_or_default c.args.rects.now 0 zero first c.requires.some))

pub loop-i-preserved : goal.loop-i-preserved
loop-i-preserved c =
    let here : c.loop-i.i < length c.args.rects.now = search rules in
    let r : Rect = get_or c.args.rects.now c.loop-i.i zero in
    let fits : FitsSigned w32 r.y1 = search rules in
    let low : FitsSigned w32 r.y0 = search rules in
    let second = rw (to_z-of_z w32 r.y1 fits) at c.max-top.ensures.other_bound in
    let top : FitsSigned w32 c.max-top.result = search rules in
    rw (to_z-of_z w32 c.max-top.result top)
    (open-next c.args.rects.now c.loop-i.i r _ _ here (get_or_default c.args.rects.now c.loop-i.i zero r here) c.max-top.ensures.self_bound
    second (max-known _ _ r.y1 _ (to_z-of_z w32 r.y1 fits) c.max-top.ensures.value)
    (le-from _ _ _ (to_z-of_z w32 r.y0 low) c.if-top-rects.false) c.loop-i.invariant)

pub returns-then-top-rects-clause-below : goal.returns-then-top-rects-clause-below
returns-then-top-rects-clause-below c =
    let here : c.loop-i.i < length c.args.rects.now = search rules in
    let r : Rect = get_or c.args.rects.now c.loop-i.i zero in
    let fits : FitsSigned w32 r.y0 = search rules in
    gap-here c.args.rects.now c.loop-i.i r _ here (get_or_default c.args.rects.now c.loop-i.i zero r here) c.requires.rise
    c.loop-i.invariant.ends (lt-from _ _ _ (to_z-of_z w32 r.y0 fits) c.if-top-rects.true)

pub returns-then-top-rects-clause-least : goal.returns-then-top-rects-clause-least
returns-then-top-rects-clause-least c = c.loop-i.invariant.least

pub returns-clause-below : goal.returns-clause-below
returns-clause-below c = gap-none c.args.rects.now

pub returns-clause-least : goal.returns-clause-least
returns-clause-least c = λ n some less. c.loop-i.invariant.least n some (omega (arith, less))
