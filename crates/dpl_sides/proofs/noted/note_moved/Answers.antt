use Rattle.std.proofs.Common.{◌≡◌, ◌+◌, ◌<◌, List, length, get_or, set, sym, ◌∙◌, ap, arith, rules}
use Rattle.std.proofs.lemmas.List.{get_or-map, length-map}
use Rattle.dpl_sides.specs.declared.sided.Sided.{Sided}
use Rattle.dpl_sides.specs.Sided.{numbers_in, on_side, sides_in}
use Rattle.dpl_sides.proofs.Moved.{moved-all, moved-next}
use Rattle.dpl_sides.proofs.noted.note_moved.Goals as goal

abbrev no_zone : Sided
no_zone = record { zone = 0; first = 0; second = 0 }

pub bounds-noted-zone : goal.bounds-noted-zone
bounds-noted-zone c =
    let at = c.loop-zone in
    let zones : List Sided = c.args.zones.now in
    let here = c.loop-zone-test.true in
    let number : get_or (numbers_in zones) at.zone-index 0 ≡ (get_or zones at.zone-index no_zone).zone = get_or-map (λ (z : Sided). z.zone) zones at.zone-index no_zone 0 here in
    let known : get_or (numbers_in zones) at.zone-index 0 < length c.args.noted.now = c.requires at.zone-index 0
    (omega (arith, here, length-map zones (λ (z : Sided). z.zone))) in
    omega (arith, known, number, at.invariant.each)

pub loop-zone-preserved : goal.loop-zone-preserved
loop-zone-preserved c =
    let at = c.loop-zone in
    let zones : List Sided = c.args.zones.now in
    let here = c.loop-zone-test.true in
    let zone : Sided = get_or zones at.zone-index no_zone in
    let number : get_or (numbers_in zones) at.zone-index 0 ≡ zone.zone = get_or-map (λ (z : Sided). z.zone) zones at.zone-index no_zone 0 here in
    let given : get_or (sides_in c.args.side zones) at.zone-index 0 ≡ on_side c.args.side zone = get_or-map (on_side c.args.side) zones at.zone-index no_zone 0 here in
    let known : get_or (numbers_in zones) at.zone-index 0 < length c.args.noted.now = c.requires at.zone-index 0
    (omega (arith, here, length-map zones (λ (z : Sided). z.zone))) in
    let moved : c.in_ok-noted.field-0 ≡ c.args.from + c.on-number.result = search rules in
    moved-next at.zone-index c.args.from (numbers_in zones) (sides_in c.args.side zones) c.args.noted.now at.noted _ c.in_ok-noted.field-0
    (omega (arith, known, at.invariant.each)) (moved ∙ ap (λ k. c.args.from + k) (c.on-number.ensures ∙ sym given))
    (ap (λ k. set at.noted k c.in_ok-noted.field-0) (sym number)) at.invariant

pub returns : goal.returns
returns c =
    let zones : List Sided = c.args.zones.now in
    moved-all c.loop-zone.zone-index c.args.from (numbers_in zones) (sides_in c.args.side zones) c.args.noted.now c.loop-zone.noted
    (omega (arith, length-map zones (λ (z : Sided). z.zone))) c.loop-zone.invariant
