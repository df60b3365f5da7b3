use Rattle.std.proofs.Common.{◌≡◌, ℕ, ◌<◌, subst, false, length, get_or, map, refl, sym, arith}
use Rattle.std.proofs.lemmas.Result.{err_from_is_err_and}
use Rattle.std.proofs.lemmas.List.{get_or-map, get_or_default}
use Rattle.dpl_orient.specs.Masks.{is_second}
use Rattle.dpl_orient.specs.declared.mask.Mask.TheVariants.{A}
use Rattle.dpl_masks.specs.Painting.{Adds}
use Rattle.dpl_masks.specs.Sheets.{rest_zones}
use Rattle.dpl_masks.proofs.RestLaws.{rest-zone-more}
use Rattle.dpl_masks.proofs.rest.add_rest_zones.Goals as goal

pub loop-k-preserved : goal.loop-k-preserved
loop-k-preserved c =
    let k_in : c.loop-k.k < length c.args.zones.now = omega arith in
    let each = c.requires.each in
    let s_in : c.loop-k.k < length c.args.sides.now = omega (arith, each, k_in) in
    let side = get_or c.args.sides.now c.loop-k.k (0, 0) in
    let known = c.requires.known c.loop-k.k (0, 0) s_in in
    let first = sym (get_or-map is_second c.args.colours.now side.0 A false known.0) in
    let second = sym (get_or-map is_second c.args.colours.now side.1 A false known.1) in
    record {
      adds = rest-zone-more _ _ _ c.args.zones.now c.args.sides.now (map is_second c.args.colours.now) c.args.inks.now
          (is_second c.args.letter) c.loop-k.k _ side _ _ _ k_in s_in (get_or_default c.args.zones.now c.loop-k.k _ _ k_in)
          (get_or_default c.args.sides.now c.loop-k.k _ _ s_in) first second refl c.loop-k.invariant.adds
          c.in_ok-add_rest_zone.ensures.adds;
      within = c.in_ok-add_rest_zone.ensures.within;
    }

pub returns-clause-adds : goal.returns-clause-adds
returns-clause-adds c =
    let all : c.loop-k.k ≡ length c.args.zones.now = omega arith in
    subst (λ (n : ℕ). Adds c.args.patches.now.items c.loop-k.patches.items (rest_zones n c.args.zones.now c.args.sides.now
    (map is_second c.args.colours.now) c.args.inks.now (is_second c.args.letter))) all c.loop-k.invariant.adds

pub returns-in_err-add_rest_zone-clause-adds : goal.returns-in_err-add_rest_zone-clause-adds
returns-in_err-add_rest_zone-clause-adds c = rw (err_from_is_err_and c.from_residual.result c.from_residual.ensures.1).1 tt

pub returns-in_err-add_rest_zone-clause-within : goal.returns-in_err-add_rest_zone-clause-within
returns-in_err-add_rest_zone-clause-within c = rw (err_from_is_err_and c.from_residual.result c.from_residual.ensures.1).1 tt
