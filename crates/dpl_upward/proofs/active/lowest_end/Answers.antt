use Rattle.std.proofs.Common.{◌<◌, length, get_or, rules, w32, FitsSigned, arith}
use Rattle.std.specs.Prelude.{pos}
use Rattle.std.proofs.lemmas.Int.{ints, to_z-of_z}
use Rattle.std.proofs.lemmas.List.{get_or_default, take_all}
use Rattle.dpl_spec_split.specs.declared.Rect.{Rect}
use Rattle.dpl_order.proofs.Orders.{min-above}
use Rattle.dpl_upward.proofs.ActiveLaws.{end-more}
use Rattle.std.proofs.lemmas.List.Elements.{Contains-get_or}
use Rattle.dpl_upward.proofs.active.lowest_end.Goals as goal

abbrev zero : Rect
zero = record { x0 = pos 0; y0 = pos 0; x1 = pos 0; y1 = pos 0 }

pub loop-r-preserved : goal.loop-r-preserved
loop-r-preserved c =
    let here : c.loop-r.r-index < length c.args.active.now = search rules in
    let r : Rect = get_or c.args.active.now c.loop-r.r-index zero in
    let fits : FitsSigned w32 r.y1 = search rules in
    let m : FitsSigned w32 c.min-high.result = record { sfits = c.min-high.type_inv } in
    let row = to_z-of_z w32 c.args.low c.ranges.low in
    let second = rw (to_z-of_z w32 r.y1 fits) at c.min-high.ensures.other_bound in
    let value = rw (to_z-of_z w32 r.y1 fits) at c.min-high.ensures.value in
    let tall = c.requires.active r (Contains-get_or c.args.active.now c.loop-r.r-index zero here) in
    let under = rw row at c.loop-r.invariant.0 in
    let below = c.loop-r.invariant.1 in
    let least = c.min-high.ensures.self_bound in
    rw (row, to_z-of_z w32 c.min-high.result m) (
      rw value (min-above c.args.low _ r.y1 under tall),
      omega (arith, ints, least, below),
      end-more c.args.active.now c.loop-r.r-index r here (get_or_default c.args.active.now c.loop-r.r-index zero r here) _ c.min-high.result least second c.loop-r.invariant.2,
    )

pub returns-clause-ends : goal.returns-clause-ends
returns-clause-ends c = rw (take_all c.loop-r.r-index c.args.active.now (omega arith)) at c.loop-r.invariant.2
