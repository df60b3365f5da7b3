use Rattle.std.proofs.Common.{◌≡◌, ℕ, ◌+◌, ◌-◌, ◌/◌, length, ap, subst, ◌∙◌, arith}
use Rattle.dpl_spec_layout.specs.Elements.{point_in, points_in}
use Rattle.dpl_shapes.specs.Straight.{IsStraightBelow}
use Rattle.dpl_flatten.proofs.PointLaws.{straight_more, slanted_at, closed}
use Rattle.dpl_flatten.proofs.shapes.is_upright.Goals as goal

pub returns-then-not-is_level_or_upright : goal.returns-then-not-is_level_or_upright
returns-then-not-is_level_or_upright c =
    slanted_at c.args.xy.now c.loop-i.i c.loop-i.last c.point_at-point.result (omega arith) (omega arith) c.loop-i.invariant.last
    c.point_at-point.ensures.value c.if-not-is_level_or_upright.ensures

pub loop-i-preserved : goal.loop-i-preserved
loop-i-preserved c =
    let e : c.loop-i.i ≡ c.loop-i.i + 1 - 1 = omega arith in
    record {
      last = c.point_at-point.ensures.value ∙ ap (point_in c.args.xy.now) e;
      straight = straight_more c.args.xy.now c.loop-i.i c.loop-i.last c.point_at-point.result (omega arith) (omega arith) c.loop-i.invariant.last
          c.point_at-point.ensures.value c.loop-i.invariant.straight c.if-not-is_level_or_upright.ensures;
    }

pub returns : goal.returns
returns c =
    let e : c.loop-i.i ≡ length c.args.xy.now / 8 = omega arith in
    closed c.args.xy.now c.is_level_or_upright-2.result c.loop-i.last c.point_at-first.result (omega arith)
    (c.loop-i.invariant.last ∙ ap (λ (n : ℕ). point_in c.args.xy.now (n - 1)) e) c.point_at-first.ensures.value
    (subst (λ (n : ℕ). IsStraightBelow (points_in c.args.xy.now) n) e c.loop-i.invariant.straight) c.is_level_or_upright-2.ensures
