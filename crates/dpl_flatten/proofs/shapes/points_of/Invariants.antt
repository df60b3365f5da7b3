use Rattle.std.proofs.Common.{◌≡◌, ◌^◌}
use Rattle.dpl_spec_split.specs.Loops.{ArePointsWithin}
use Rattle.dpl_spec_layout.specs.Elements.{first_points}
use Rattle.dpl_flatten.proofs.shapes.points_of.Given as goal

abbrev pub invariant-loop-i : goal.invariant-loop-i
invariant-loop-i l = record { value : l.points.items ≡ first_points l.xy l.i; within : ArePointsWithin (2 ^ 31) l.points.items }
