use Rattle.std.proofs.Common.{◌<◌, length, arith, rules, get_or}
use Rattle.std.proofs.lemmas.Result.{IfOk-from_err}
use Rattle.std.proofs.lemmas.List.Elements.{Contains-get_or}
use Rattle.dpl_cert.specs.Grammar.{IsStitch}
use Rattle.dpl_law_verdict.specs.Own.{stitch_line, no_zone}
use Rattle.dpl_answer.proofs.LineLaws.{fits_push, map_more, rect_fits}
use Rattle.dpl_answer.proofs.lines.stitch_lines.Goals as goal

pub bounds-sides-k : goal.bounds-sides-k
bounds-sides-k c = c.requires.known _ (Contains-get_or c.args.stitches.now c.loop-k.k-index 0 (omega arith))

pub offset_bounds-sides-k : goal.offset_bounds-sides-k
offset_bounds-sides-k c =
    let known : get_or c.args.stitches.now c.loop-k.k-index 0 < length c.args.sides.now = c.requires.known _
    (Contains-get_or c.args.stitches.now c.loop-k.k-index 0 (omega arith)) in
    search rules

pub bounds-zones-k : goal.bounds-zones-k
bounds-zones-k c =
    let known : get_or c.args.stitches.now c.loop-k.k-index 0 < length c.args.sides.now = c.requires.known _
    (Contains-get_or c.args.stitches.now c.loop-k.k-index 0 (omega arith)) in
    omega arith

pub offset_bounds-zones-k : goal.offset_bounds-zones-k
offset_bounds-zones-k c =
    let known : get_or c.args.stitches.now c.loop-k.k-index 0 < length c.args.sides.now = c.requires.known _
    (Contains-get_or c.args.stitches.now c.loop-k.k-index 0 (omega arith)) in
    let there : get_or c.args.stitches.now c.loop-k.k-index 0 < length c.args.zones.now = omega arith in
    search rules

pub loop-k-preserved : goal.loop-k-preserved
loop-k-preserved c =
    let within : c.loop-k.k-index < length c.args.stitches.now = omega arith in
    let k = get_or c.args.stitches.now c.loop-k.k-index 0 in
    let known : k < length c.args.sides.now = c.requires.known _ (Contains-get_or c.args.stitches.now c.loop-k.k-index 0 within) in
    let there : k < length c.args.zones.now = omega arith in
    record {
      put = map_more (stitch_line c.args.zones.now c.args.sides.now) c.args.stitches.now c.loop-k.k-index 0 _ _ within c.loop-k.invariant.put c.in_ok-push.ensures.items;
      fits = rw c.in_ok-push.ensures.items (fits_push IsStitch _ _ c.loop-k.invariant.fits
          (record {
            rect = rect_fits _ (c.requires.within k no_zone there);
            p = (c.requires.numbers k (0, 0) known).0;
            q = (c.requires.numbers k (0, 0) known).1;
          }));
    }

pub returns-in_err-push-clause-lines : goal.returns-in_err-push-clause-lines
returns-in_err-push-clause-lines c = IfOk-from_err _ _ c.from_residual.ensures.0

pub returns-in_err-push-clause-within : goal.returns-in_err-push-clause-within
returns-in_err-push-clause-within c = IfOk-from_err _ _ c.from_residual.ensures.0
