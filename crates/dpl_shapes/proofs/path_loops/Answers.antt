use Rattle.std.proofs.Common.{◌≡◌, ◌/◌, ◌^◌, ◌≤◌, sym, subst, ◌∙◌, ap, arith, to_z, of_z, w16, w64}
use Rattle.std.specs.Prelude.{unsigned_abs, map, ◌↔◌}
use Rattle.std.specs.List.{All, Contains}
use Rattle.std.proofs.lemmas.Int.{ints}
use Rattle.std.proofs.lemmas.Result.{IfOk-from_err}
use Rattle.dpl_spec_split.specs.Loops.{IsRectilinear, SomeLoopCovers}
use Rattle.dpl_spec_elements.specs.Paths.{PathElement, path_of, past_end, corners_of, half_of, path_rects, PathCovers, IsFaultless}
use Rattle.dpl_shapes.specs.Strokes.{drawn_points}
use Rattle.dpl_shapes.proofs.Corners.{loops-straight, loops-cover}
use Rattle.dpl_shapes.proofs.Ends.{rects-proper, path-drawn, path-as, past-within, past-small, past-as, kept, dot-is, Contains-drawn}
use Rattle.dpl_shapes.proofs.path_loops.Goals as goal
use Rattle.dpl_shapes.proofs.path_loops.Goals.{In_ok-corners}

-- the path that was passed on has no fault
sound : (c : In_ok-corners) → IsFaultless (path_of c.args.points.now c.args.width c.args.kind c.args.begin_ext c.args.end_ext)
sound c =
    let kind : to_z w16 (of_z w16 c.args.kind) ≡ c.args.kind = omega (arith, ints) in
    let begin : to_z w64 (of_z w64 c.args.begin_ext) ≡ c.args.begin_ext = omega (arith, ints) in
    let end : to_z w64 (of_z w64 c.args.end_ext) ≡ c.args.end_ext = omega (arith, ints) in
    let width : to_z w64 (of_z w64 c.args.width) ≡ c.args.width = omega (arith, ints) in
    subst IsFaultless (path-as c.args.points.now _ _ _ _ _ _ _ _ width kind begin end) c.in_ok-corners.ensures.faultless

pub loops_along-requires-clause-points : goal.loops_along-requires-clause-points
loops_along-requires-clause-points c =
    let q : PathElement = path_of c.args.points.now (to_z w64 (of_z w64 c.args.width)) (to_z w16 (of_z w16 c.args.kind))
    (to_z w64 (of_z w64 c.args.begin_ext)) (to_z w64 (of_z w64 c.args.end_ext)) in
    λ p h. c.requires.points p (Contains-drawn q p (subst (λ ps. Contains ps p) (c.deref.ensures.value ∙ c.in_ok-corners.ensures.points) h))

pub loops_along-requires-clause-margins : goal.loops_along-requires-clause-margins
loops_along-requires-clause-margins c =
    let half : unsigned_abs (to_z w64 (c.unsigned_abs.result / 2)) ≤ 2 ^ 31 = omega (arith, ints, c.unsigned_abs.ensures.value, c.requires.width) in
    let begin_ext : unsigned_abs (to_z w64 (of_z w64 c.args.begin_ext)) ≤ 2 ^ 31 = omega (arith, ints, c.requires.begin_ext) in
    let end_ext : unsigned_abs (to_z w64 (of_z w64 c.args.end_ext)) ≤ 2 ^ 31 = omega (arith, ints, c.requires.end_ext) in
    let b = past-within (to_z w16 (of_z w16 c.args.kind)) _ _ (2 ^ 31) half begin_ext in
    let e = past-within (to_z w16 (of_z w16 c.args.kind)) _ _ (2 ^ 31) half end_ext in
    record {
      half = half;
      begin = past-small c.past_end.result _ c.past_end.ensures b;
      end = past-small c.past_end-2.result _ c.past_end-2.ensures e;
    }

pub returns-clause-loops : goal.returns-clause-loops
returns-clause-loops c =
    let p : PathElement = path_of c.args.points.now c.args.width c.args.kind c.args.begin_ext c.args.end_ext in
    let kind : to_z w16 (of_z w16 c.args.kind) ≡ c.args.kind = omega (arith, ints) in
    let half : to_z w64 (c.unsigned_abs.result / 2) ≡ half_of p = omega (arith, ints, c.unsigned_abs.ensures.value, c.requires.width) in
    let begin_ext : to_z w64 (of_z w64 c.args.begin_ext) ≡ c.args.begin_ext = omega (arith, ints) in
    let end_ext : to_z w64 (of_z w64 c.args.end_ext) ≡ c.args.end_ext = omega (arith, ints) in
    let width : to_z w64 (of_z w64 c.args.width) ≡ c.args.width = omega (arith, ints) in
    let half_fits : unsigned_abs (to_z w64 (c.unsigned_abs.result / 2)) ≤ 2 ^ 31 = omega (arith, ints, c.unsigned_abs.ensures.value, c.requires.width) in
    let begin_fits : unsigned_abs (to_z w64 (of_z w64 c.args.begin_ext)) ≤ 2 ^ 31 = omega (arith, ints, c.requires.begin_ext) in
    let end_fits : unsigned_abs (to_z w64 (of_z w64 c.args.end_ext)) ≤ 2 ^ 31 = omega (arith, ints, c.requires.end_ext) in
    let b = past-within (to_z w16 (of_z w16 c.args.kind)) _ _ (2 ^ 31) half_fits begin_fits in
    let e = past-within (to_z w16 (of_z w16 c.args.kind)) _ _ (2 ^ 31) half_fits end_fits in
    let begin : to_z w64 (of_z w64 c.past_end.result) ≡ past_end c.args.kind (half_of p) c.args.begin_ext =
    kept c.past_end.result _ c.past_end.ensures b ∙ (c.past_end.ensures ∙ past-as _ _ _ c.args.kind (half_of p) c.args.begin_ext kind half begin_ext) in
    let end : to_z w64 (of_z w64 c.past_end-2.result) ≡ past_end c.args.kind (half_of p) c.args.end_ext =
    kept c.past_end-2.result _ c.past_end-2.ensures e ∙ (c.past_end-2.ensures ∙ past-as _ _ _ c.args.kind (half_of p) c.args.end_ext kind half end_ext) in
    let same = path-as c.args.points.now _ _ _ _ _ _ _ _ width kind begin_ext end_ext in
    let corners = c.deref.ensures.value ∙ (c.in_ok-corners.ensures.points ∙ ap drawn_points same) in
    c.in_ok-loops_along.ensures ∙ ap (map corners_of) (path-drawn p _ _ _ corners half begin end (dot-is c.args.kind c.ranges.kind))

pub returns-clause-covers : goal.returns-clause-covers
returns-clause-covers c =
    let p : PathElement = path_of c.args.points.now c.args.width c.args.kind c.args.begin_ext c.args.end_ext in
    let proper = rects-proper p (sound (goal.at.returns-clause-covers c).In_ok-corners) in
    λ s. subst (λ ls. SomeLoopCovers ls s ↔ PathCovers p s) (sym (returns-clause-loops c)) (loops-cover (path_rects p) proper s)

pub returns-clause-straight : goal.returns-clause-straight
returns-clause-straight c =
    let p : PathElement = path_of c.args.points.now c.args.width c.args.kind c.args.begin_ext c.args.end_ext in
    subst (All IsRectilinear) (sym (returns-clause-loops c)) (loops-straight (path_rects p))

pub returns-clause-faultless : goal.returns-clause-faultless
returns-clause-faultless c = sound (goal.at.returns-clause-faultless c).In_ok-corners

pub returns-in_err-corners-clause-loops : goal.returns-in_err-corners-clause-loops
returns-in_err-corners-clause-loops c = IfOk-from_err _ _ c.from_residual.ensures.0

pub returns-in_err-corners-clause-covers : goal.returns-in_err-corners-clause-covers
returns-in_err-corners-clause-covers c = IfOk-from_err _ _ c.from_residual.ensures.0

pub returns-in_err-corners-clause-straight : goal.returns-in_err-corners-clause-straight
returns-in_err-corners-clause-straight c = IfOk-from_err _ _ c.from_residual.ensures.0

pub returns-in_err-corners-clause-faultless : goal.returns-in_err-corners-clause-faultless
returns-in_err-corners-clause-faultless c = IfOk-from_err _ _ c.from_residual.ensures.0

pub returns-in_err-loops_along-clause-loops : goal.returns-in_err-loops_along-clause-loops
returns-in_err-loops_along-clause-loops c = IfOk-from_err _ _ c.from_residual-in_err-loops_along.ensures.0

pub returns-in_err-loops_along-clause-covers : goal.returns-in_err-loops_along-clause-covers
returns-in_err-loops_along-clause-covers c = IfOk-from_err _ _ c.from_residual-in_err-loops_along.ensures.0

pub returns-in_err-loops_along-clause-straight : goal.returns-in_err-loops_along-clause-straight
returns-in_err-loops_along-clause-straight c = IfOk-from_err _ _ c.from_residual-in_err-loops_along.ensures.0

pub returns-in_err-loops_along-clause-faultless : goal.returns-in_err-loops_along-clause-faultless
returns-in_err-loops_along-clause-faultless c = IfOk-from_err _ _ c.from_residual-in_err-loops_along.ensures.0
