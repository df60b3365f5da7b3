use Rattle.std.proofs.Common.{◌≡◌, ◌-◌}
use Rattle.dpl_spec_layout.specs.Elements.{point_in, points_in}
use Rattle.dpl_shapes.specs.Straight.{IsStraightBelow}
use Rattle.dpl_flatten.proofs.shapes.is_upright.Given as goal

abbrev pub invariant-loop-i : goal.invariant-loop-i
invariant-loop-i l = record { last : l.last ≡ point_in l.xy (l.i - 1); straight : IsStraightBelow (points_in l.xy) l.i }
