use Rattle.std.proofs.Common.{◌≡◌, ℕ, ◌<◌, List, length, take, ap, arith, rules}
use Rattle.std.specs.List.{All}
use Rattle.std.specs.Vec.Iter.{into_iter_items}
use Rattle.std.proofs.lemmas.List.{length-append}
use Rattle.std.proofs.lemmas.List.Elements.{Contains-get_or}
use Rattle.std.proofs.lemmas.Result.{IfOk-from_err, IfOk-weaker}
use Rattle.dpl_spec_split.specs.declared.Rect.{Rect}
use Rattle.dpl_spec_split.specs.declared.Zone.{Zone}
use Rattle.dpl_sides.specs.Sided.{numbers_in}
use Rattle.dpl_piece.specs.Pieces.{AreZonesOf}
use Rattle.dpl_piece.proofs.Adding.{added-begun, added-next, all-pieces, all-sides}
use Rattle.dpl_piece.proofs.Cuts.{own-within, zones-below}
use Rattle.dpl_piece.proofs.Ranks.{firsts-known, numbered, seconds-known, sorted-sides}
use Rattle.dpl_piece.proofs.Sides.{IsBelow}
use Rattle.dpl_piece.proofs.Sorted.{are-cut}
use Rattle.dpl_piece.proofs.Turns.{own-zones, turn, zones-after, zones-holes, zones-known}
use Rattle.dpl_piece.proofs.rest.pieces_of.Goals as goal

pub begun-requires : goal.begun-requires
begun-requires c = λ k d k_in j e j_in.
    (((c.requires.made.each k d k_in).own _).0 (Contains-get_or (numbers_in _) j e j_in)).0

pub loop-feature-init : goal.loop-feature-init
loop-feature-init c =
    record {
      all = search rules;
      left = search rules;
      count = search rules;
      zones = rw c.as_slice-rest.ensures.value c.requires.sorted;
      added = added-begun c.args.features.items c.args.zones.now c.in_ok-cutting.cutting
          (c.in_ok-cutting.ensures.begun c.args.features.items c.requires.features c.requires.zones c.requires.made);
    }

pub split_at-requires : goal.split_at-requires
split_at-requires c = c.own_count.ensures.inside

pub add-requires-clause-known : goal.add-requires-clause-known
add-requires-clause-known c =
    let at = c.loop-feature in
    let own = own-zones c.args.zones.now at.rest.now at.number c.own_count.result at.invariant.zones c.own_count.ensures.own c.own_count.ensures.next in
    rw c.split_at.ensures.front (zones-known c.args.zones.now at.number _ own)

pub add-requires-clause-within : goal.add-requires-clause-within
add-requires-clause-within c =
    let at = c.loop-feature in
    let own = own-zones c.args.zones.now at.rest.now at.number c.own_count.result at.invariant.zones c.own_count.ensures.own c.own_count.ensures.next in
    rw c.split_at.ensures.front
    (own-within c.args.features.items c.args.zones.now c.requires.features c.requires.zones c.requires.within at.number _
    (zones-holes c.args.zones.now at.number _ own))

pub loop-feature-preserved : goal.loop-feature-preserved
loop-feature-preserved c =
    let at = c.loop-feature in
    let features : List (List Rect) = c.args.features.items in
    let zones : List Zone = c.args.zones.now in
    let steps = c.in-Some.ensures.steps in
    let t = turn features at.yielded _ _ c.in-Some.feature at.number at.invariant.all steps.0 at.invariant.count in
    let left = at.invariant.left in
    let gone = steps.1 in
    let short = ap length steps.0 in
    let mid : ℕ = c.own_count.result in
    let own : AreZonesOf zones at.number (take mid at.rest.now) = own-zones zones at.rest.now at.number mid at.invariant.zones c.own_count.ensures.own
    c.own_count.ensures.next in
    record {
      all = t.0;
      left = omega (arith, left, gone, short);
      count = t.3;
      zones = rw c.split_at.ensures.back
          (zones-after zones at.rest.now at.number mid at.invariant.zones c.own_count.ensures.own c.own_count.ensures.next);
      added = added-next features zones c.requires.features c.requires.zones c.requires.within at.number t.1 (take mid at.rest.now) own at.place at.cutting at.invariant.added
          c.in_ok-place.place _ (rw (t.2, c.split_at.ensures.front) at c.in_ok-place.ensures);
    }

pub sorted-requires-clause-firsts : goal.sorted-requires-clause-firsts
sorted-requires-clause-firsts c =
    let at = c.loop-feature in
    let left = at.invariant.left in
    let none = c.in-None.ensures.steps.0 in
    let count = at.invariant.count in
    let parts = length-append at.yielded (into_iter_items at.feature-iterator) in
    let whole = ap length at.invariant.all in
    let all : at.number ≡ length c.args.features.items = omega (arith, left, none, count, parts, whole) in
    let below : All (λ z. let u : Zone = z in u.feature < at.number) c.args.zones.now = rw all (zones-below c.args.features.items c.args.zones.now c.requires.zones) in
    firsts-known c.args.zones.now at.number at.cutting.pieces.items at.cutting.noted.firsts.items at.cutting.noted.seconds.items
    (all-sides c.args.features.items c.args.zones.now at.number at.place at.cutting at.invariant.added all) below

pub sorted-requires-clause-seconds : goal.sorted-requires-clause-seconds
sorted-requires-clause-seconds c =
    let at = c.loop-feature in
    let left = at.invariant.left in
    let none = c.in-None.ensures.steps.0 in
    let count = at.invariant.count in
    let parts = length-append at.yielded (into_iter_items at.feature-iterator) in
    let whole = ap length at.invariant.all in
    let all : at.number ≡ length c.args.features.items = omega (arith, left, none, count, parts, whole) in
    let below : All (λ z. let u : Zone = z in u.feature < at.number) c.args.zones.now = rw all (zones-below c.args.features.items c.args.zones.now c.requires.zones) in
    seconds-known c.args.zones.now at.number at.cutting.pieces.items at.cutting.noted.firsts.items at.cutting.noted.seconds.items
    (all-sides c.args.features.items c.args.zones.now at.number at.place at.cutting at.invariant.added all) below

pub returns-clause-cut : goal.returns-clause-cut
returns-clause-cut c =
    let at = c.loop-feature in
    let left = at.invariant.left in
    let none = c.in-None.ensures.steps.0 in
    let count = at.invariant.count in
    let parts = length-append at.yielded (into_iter_items at.feature-iterator) in
    let whole = ap length at.invariant.all in
    let all : at.number ≡ length c.args.features.items = omega (arith, left, none, count, parts, whole) in
    let pieces = all-pieces c.args.features.items c.args.zones.now at.number at.place at.cutting at.invariant.added all in
    IfOk-weaker c.sorted.result _ _
    (λ v sorted. are-cut c.args.features.items c.args.zones.now sorted.numbered _
    (numbered c.args.features.items c.args.zones.now (IsBelow (length c.args.features.items)) at.cutting.pieces.items sorted.numbered sorted.are
    (rw all at pieces))
    sorted.same sorted.rise)
    c.sorted.ensures.sorted

pub returns-clause-wholes : goal.returns-clause-wholes
returns-clause-wholes c =
    let at = c.loop-feature in
    let left = at.invariant.left in
    let none = c.in-None.ensures.steps.0 in
    let count = at.invariant.count in
    let parts = length-append at.yielded (into_iter_items at.feature-iterator) in
    let whole = ap length at.invariant.all in
    let all : at.number ≡ length c.args.features.items = omega (arith, left, none, count, parts, whole) in
    IfOk-weaker c.sorted.result (λ v. v.wholes.items ≡ at.cutting.wholes.items) _ (λ v same. rw same (rw all at at.invariant.added.wholes)) c.sorted.ensures.wholes

pub returns-clause-sides : goal.returns-clause-sides
returns-clause-sides c =
    let at = c.loop-feature in
    let left = at.invariant.left in
    let none = c.in-None.ensures.steps.0 in
    let count = at.invariant.count in
    let parts = length-append at.yielded (into_iter_items at.feature-iterator) in
    let whole = ap length at.invariant.all in
    let all : at.number ≡ length c.args.features.items = omega (arith, left, none, count, parts, whole) in
    let below : All (λ z. let u : Zone = z in u.feature < at.number) c.args.zones.now = rw all (zones-below c.args.features.items c.args.zones.now c.requires.zones) in
    IfOk-weaker c.sorted.result _ _
    (λ v sorted. sorted-sides c.args.zones.now at.number at.cutting.pieces.items _ at.cutting.noted.firsts.items at.cutting.noted.seconds.items _
    (all-sides c.args.features.items c.args.zones.now at.number at.place at.cutting at.invariant.added all) below sorted)
    c.sorted.ensures.sorted

pub returns-in_err-cutting-clause-cut : goal.returns-in_err-cutting-clause-cut
returns-in_err-cutting-clause-cut c = IfOk-from_err _ _ c.from_residual.ensures.0

pub returns-in_err-cutting-clause-wholes : goal.returns-in_err-cutting-clause-wholes
returns-in_err-cutting-clause-wholes c = IfOk-from_err _ _ c.from_residual.ensures.0

pub returns-in_err-cutting-clause-sides : goal.returns-in_err-cutting-clause-sides
returns-in_err-cutting-clause-sides c = IfOk-from_err _ _ c.from_residual.ensures.0

pub returns-in_err-place-clause-cut : goal.returns-in_err-place-clause-cut
returns-in_err-place-clause-cut c = IfOk-from_err _ _ c.from_residual-in_err-place.ensures.0

pub returns-in_err-place-clause-wholes : goal.returns-in_err-place-clause-wholes
returns-in_err-place-clause-wholes c = IfOk-from_err _ _ c.from_residual-in_err-place.ensures.0

pub returns-in_err-place-clause-sides : goal.returns-in_err-place-clause-sides
returns-in_err-place-clause-sides c = IfOk-from_err _ _ c.from_residual-in_err-place.ensures.0
