use Rattle.std.proofs.Common.{◌<◌, length, get_or, rules, w32, FitsSigned}
use Rattle.std.proofs.lemmas.Int.{to_z-of_z}
use Rattle.std.proofs.lemmas.List.{get_or_default}
use Rattle.dpl_spec_split.specs.declared.Rect.{Rect}
use Rattle.dpl_bars.proofs.Steps.{zero}
use Rattle.dpl_bars.proofs.Steps.{lt-from}
use Rattle.dpl_bars.proofs.AloneLaws.{end-more, prefix-here}
use Rattle.dpl_bars.proofs.alone.advanced.Goals as goal

pub loop-i-preserved : goal.loop-i-preserved
loop-i-preserved c =
    let here : c.loop-i.i < length c.args.rects.now = search rules in
    let r : Rect = get_or c.args.rects.now c.loop-i.i zero in
    let fits : FitsSigned w32 r.x1 = search rules in
    let second = rw (to_z-of_z w32 r.x1 fits) at c.max-reach.ensures.other_bound in
    let reach : FitsSigned w32 c.max-reach.result = search rules in
    rw (to_z-of_z w32 c.max-reach.result reach)
    (end-more c.args.rects.now c.loop-i.i r _ _ here (get_or_default c.args.rects.now c.loop-i.i zero r here) c.max-reach.ensures.self_bound second c.loop-i.invariant)

pub returns-then-x-rects : goal.returns-then-x-rects
returns-then-x-rects c =
    let here : c.loop-i.i < length c.args.rects.now = search rules in
    let r : Rect = get_or c.args.rects.now c.loop-i.i zero in
    let left : FitsSigned w32 r.x0 = search rules in
    let test = rw (to_z-of_z w32 c.args.x c.ranges.x) at c.if-x-rects.true in
    prefix-here c.args.rects.now c.loop-i.i r c.args.x _ c.requires.rise here (get_or_default c.args.rects.now c.loop-i.i zero r here)
    (lt-from _ _ _ (to_z-of_z w32 r.x0 left) test) c.loop-i.invariant
