use Rattle.std.proofs.Common.{◌≡◌, ℕ, ◌<◌, subst, false, length, map, refl, sym, arith}
use Rattle.std.proofs.lemmas.Result.{err_from_is_err_and}
use Rattle.std.proofs.lemmas.List.{get_or-map}
use Rattle.dpl_orient.specs.Masks.{is_second}
use Rattle.dpl_orient.specs.declared.mask.Mask.TheVariants.{A}
use Rattle.dpl_masks.specs.Painting.{Adds}
use Rattle.dpl_masks.specs.Sheets.{rest_pieces}
use Rattle.dpl_masks.proofs.RestLaws.{rest-piece-more}
use Rattle.dpl_masks.proofs.rest.add_rest_pieces.Goals as goal

pub loop-k-preserved : goal.loop-k-preserved
loop-k-preserved c =
    let k_in : c.loop-k.k < length c.args.parts.now = omega arith in
    let each = c.requires.each in
    let colour_in : c.loop-k.k < length c.args.colours.now = omega (arith, each, k_in) in
    let colour = sym (get_or-map is_second c.args.colours.now c.loop-k.k A false colour_in) in
    let step = rw c.rects.ensures.value at c.in_ok-add_rest_piece.ensures.adds in
    record {
      adds = rest-piece-more _ _ _ c.args.parts.now c.args.owners.now (map is_second c.args.colours.now) c.args.inks.now
          (is_second c.args.letter) c.loop-k.k c.index-parts-k.result _ _ k_in c.index-parts-k.is colour refl c.loop-k.invariant.adds step;
      within = c.in_ok-add_rest_piece.ensures.within;
    }

pub returns-clause-adds : goal.returns-clause-adds
returns-clause-adds c =
    let all : c.loop-k.k ≡ length c.args.parts.now = omega arith in
    subst (λ (n : ℕ). Adds c.args.patches.now.items c.loop-k.patches.items (rest_pieces n c.args.parts.now c.args.owners.now
    (map is_second c.args.colours.now) c.args.inks.now (is_second c.args.letter))) all c.loop-k.invariant.adds

pub returns-in_err-add_rest_piece-clause-adds : goal.returns-in_err-add_rest_piece-clause-adds
returns-in_err-add_rest_piece-clause-adds c = rw (err_from_is_err_and c.from_residual.result c.from_residual.ensures.1).1 tt

pub returns-in_err-add_rest_piece-clause-within : goal.returns-in_err-add_rest_piece-clause-within
returns-in_err-add_rest_piece-clause-within c = rw (err_from_is_err_and c.from_residual.result c.from_residual.ensures.1).1 tt
