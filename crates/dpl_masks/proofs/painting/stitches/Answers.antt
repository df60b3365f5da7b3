use Rattle.std.proofs.Common.{◌≡◌, ◌∙◌, ◌<◌, Bool, ap, sym, arith, false, length, map, get_or}
use Rattle.std.proofs.lemmas.Result.{err_from_is_err_and}
use Rattle.std.proofs.lemmas.List.{get_or-map, get_or_default}
use Rattle.dpl_spec_split.specs.Colours.{differ}
use Rattle.dpl_orient.specs.Masks.{is_second}
use Rattle.dpl_orient.specs.declared.mask.Mask.TheVariants.{A}
use Rattle.dpl_masks.proofs.MaskLaws.{are_stitches, one_stitch_more}
use Rattle.dpl_masks.proofs.painting.stitches.Goals as goal

pub loop-k-preserved : goal.loop-k-preserved
loop-k-preserved c =
    let within : c.loop-k.k < length c.args.sides.now = omega arith in
    let side = get_or c.args.sides.now c.loop-k.k (0, 0) in
    let known = c.requires c.loop-k.k (0, 0) within in
    one_stitch_more c.loop-k.k c.args.sides.now (map is_second c.args.colours.now) _ _ side _ within (get_or_default c.args.sides.now c.loop-k.k _ _ within)
    (ap (λ (x : Bool). differ x (is_second (get_or c.args.colours.now side.1 A))) (sym (get_or-map is_second c.args.colours.now side.0 A false known.0))
    ∙ ap (λ (y : Bool). differ (get_or (map is_second c.args.colours.now) side.0 false) y) (sym (get_or-map is_second c.args.colours.now side.1 A false known.1)))
    c.loop-k.invariant c.in_ok-add_stitch.ensures

pub returns : goal.returns
returns c =
    let whole : c.loop-k.k ≡ length c.args.sides.now = omega arith in
    are_stitches c.loop-k.k c.args.sides.now (map is_second c.args.colours.now) c.loop-k.stitches.items whole c.loop-k.invariant

pub returns-in_err-add_stitch : goal.returns-in_err-add_stitch
returns-in_err-add_stitch c = rw (err_from_is_err_and c.from_residual.result c.from_residual.ensures.1).1 tt
