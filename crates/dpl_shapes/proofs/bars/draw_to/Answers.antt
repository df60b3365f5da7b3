use Rattle.std.proofs.Common.{◌≡◌, arith, to_z, of_z, w64}
use Rattle.std.proofs.lemmas.Int.{ints}
use Rattle.std.proofs.lemmas.Result.{IfOk-from_err}
use Rattle.dpl_shapes.proofs.Stroking.{draws-corner, bar-as}
use Rattle.dpl_shapes.proofs.bars.draw_to.Goals as goal

pub returns-clause-draws : goal.returns-clause-draws
returns-clause-draws c =
    let same : to_z w64 (of_z w64 c.args.half) ≡ c.args.half = omega (arith, ints) in
    let begun : to_z w64 (of_z w64 c.args.stroke.begin) ≡ c.args.stroke.begin = omega (arith, ints, c.requires.stroke.begin) in
    draws-corner c.args.half _ _ c.args.stroke _ c.args.point _ _ _ c.heading_to.ensures c.heading_to-2.ensures c.go_the_same_way.ensures c.if-go_the_same_way.false
    (bar-as _ _ _ _ _ c.args.half c.args.stroke.begin c.args.half c.args.stroke.segment same begun same c.in_ok-add_bar.ensures)
    (λ i. record { segment = record { from = c.args.stroke.segment.to; to = c.args.point }; begin = same i })

pub returns-in_err-add_bar-clause-draws : goal.returns-in_err-add_bar-clause-draws
returns-in_err-add_bar-clause-draws c = IfOk-from_err _ _ c.from_residual.ensures.0

pub returns-in_err-add_bar-clause-within : goal.returns-in_err-add_bar-clause-within
returns-in_err-add_bar-clause-within c = IfOk-from_err _ _ c.from_residual.ensures.0

pub add_bar-requires-clause-segment : goal.add_bar-requires-clause-segment
add_bar-requires-clause-segment c = c.requires.stroke.segment

pub add_bar-requires-clause-half : goal.add_bar-requires-clause-half
add_bar-requires-clause-half c = omega (arith, ints, c.requires.half)

pub add_bar-requires-clause-begin : goal.add_bar-requires-clause-begin
add_bar-requires-clause-begin c = omega (arith, ints, c.requires.stroke.begin)

pub add_bar-requires-clause-end : goal.add_bar-requires-clause-end
add_bar-requires-clause-end c = omega (arith, ints, c.requires.half)

pub returns-clause-within : goal.returns-clause-within
returns-clause-within c = record {
  segment = record { from = c.requires.stroke.segment.to; to = c.requires.point };
  begin = omega (arith, ints, c.requires.half);
}
