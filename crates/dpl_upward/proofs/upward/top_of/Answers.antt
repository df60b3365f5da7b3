use Rattle.std.proofs.Common.{◌<◌, length, get_or, rules, w32, FitsSigned, arith}
use Rattle.std.specs.Prelude.{pos}
use Rattle.std.proofs.lemmas.Int.{to_z-of_z}
use Rattle.std.proofs.lemmas.List.{get_or_default, take_all}
use Rattle.dpl_spec_split.specs.declared.Rect.{Rect}
use Rattle.dpl_upward.proofs.ActiveLaws.{top-more}
use Rattle.dpl_upward.proofs.upward.top_of.Goals as goal

abbrev zero : Rect
zero = record { x0 = pos 0; y0 = pos 0; x1 = pos 0; y1 = pos 0 }

pub loop-r-preserved : goal.loop-r-preserved
loop-r-preserved c =
    let here : c.loop-r.r-index < length c.args.rects.now = search rules in
    let r : Rect = get_or c.args.rects.now c.loop-r.r-index zero in
    let fits : FitsSigned w32 r.y1 = search rules in
    let top : FitsSigned w32 c.max-top.result = record { sfits = c.max-top.type_inv } in
    let second = rw (to_z-of_z w32 r.y1 fits) at c.max-top.ensures.other_bound in
    rw (to_z-of_z w32 c.max-top.result top)
    (top-more c.args.rects.now c.loop-r.r-index r here (get_or_default c.args.rects.now c.loop-r.r-index zero r here) _ c.max-top.result c.max-top.ensures.self_bound second c.loop-r.invariant)

pub returns : goal.returns
returns c = rw (take_all c.loop-r.r-index c.args.rects.now (omega arith)) at c.loop-r.invariant
