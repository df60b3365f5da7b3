use Rattle.std.proofs.Common.{◌≡◌, arith, to_z, of_z, w64}
use Rattle.std.proofs.lemmas.Int.{ints}
use Rattle.std.proofs.lemmas.Result.{IfOk-from_err}
use Rattle.std.proofs.lemmas.List.Elements.{Contains-get_or}
use Rattle.dpl_shapes.proofs.Stroking.{drawn-next, drawn-all, bar-as, begun-as}
use Rattle.dpl_shapes.proofs.bars.bar_loops.Goals as goal

pub loop-point-preserved : goal.loop-point-preserved
loop-point-preserved c =
    let same : to_z w64 (of_z w64 c.args.margins.now.half) ≡ c.args.margins.now.half = omega (arith, ints, c.requires.margins.half) in
    record {
      within = c.in_ok-stroke.ensures.within;
      drawn = drawn-next c.args.margins.now.half _ _ _ _ _ _ _ c.args.rest.now c.loop-point.point-index _ same c.loop-point-test.true
          c.loop-point.invariant.drawn c.in_ok-stroke.ensures.draws;
    }

pub returns : goal.returns
returns c =
    let half : to_z w64 (of_z w64 c.args.margins.now.half) ≡ c.args.margins.now.half = omega (arith, ints, c.requires.margins.half) in
    let end : to_z w64 (of_z w64 c.args.margins.now.end) ≡ c.args.margins.now.end = omega (arith, ints, c.requires.margins.end) in
    let begin : to_z w64 (of_z w64 c.loop-point.stroke.begin) ≡ c.loop-point.stroke.begin = omega (arith, ints, c.loop-point.invariant.within.begin) in
    let start : to_z w64 (of_z w64 c.args.margins.now.begin) ≡ c.args.margins.now.begin = omega (arith, ints, c.requires.margins.begin) in
    begun-as c.args.margins.now.half _ c.args.margins.now.begin c.args.margins.now.end _ _ start
    (drawn-all c.args.margins.now.half c.args.margins.now.end _ _ _ _ c.loop-point.stroke c.args.rest.now c.loop-point.point-index
    c.new-loops.ensures.items c.loop-point-test.false c.loop-point.invariant.drawn
    (bar-as _ _ _ _ _ c.args.margins.now.half c.loop-point.stroke.begin c.args.margins.now.end c.loop-point.stroke.segment half begin end c.in_ok-add_bar.ensures))

pub returns-in_err-stroke : goal.returns-in_err-stroke
returns-in_err-stroke c = IfOk-from_err _ _ c.from_residual.ensures.0

pub returns-in_err-add_bar : goal.returns-in_err-add_bar
returns-in_err-add_bar c = IfOk-from_err _ _ c.from_residual-in_err-add_bar.ensures.0

pub draw_to-requires-clause-stroke : goal.draw_to-requires-clause-stroke
draw_to-requires-clause-stroke c = c.loop-point.invariant.within

pub draw_to-requires-clause-point : goal.draw_to-requires-clause-point
draw_to-requires-clause-point c =
    c.requires.rest _ (Contains-get_or c.args.rest.now c.loop-point.point-index _ c.loop-point-test.true)

pub draw_to-requires-clause-half : goal.draw_to-requires-clause-half
draw_to-requires-clause-half c = omega (arith, ints, c.requires.margins.half)

pub add_bar-requires-clause-segment : goal.add_bar-requires-clause-segment
add_bar-requires-clause-segment c = c.loop-point.invariant.within.segment

pub add_bar-requires-clause-half : goal.add_bar-requires-clause-half
add_bar-requires-clause-half c = omega (arith, ints, c.requires.margins.half)

pub add_bar-requires-clause-begin : goal.add_bar-requires-clause-begin
add_bar-requires-clause-begin c = omega (arith, ints, c.loop-point.invariant.within.begin)

pub add_bar-requires-clause-end : goal.add_bar-requires-clause-end
add_bar-requires-clause-end c = omega (arith, ints, c.requires.margins.end)
