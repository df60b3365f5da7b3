use Rattle.std.proofs.Common.{◌≡◌, ◌-◌, ◌≤◌, true, length}
use Rattle.std.specs.List.{AllWithin}
use Rattle.dpl_sides.specs.Corners.{is_before}
use Rattle.dpl_sides.proofs.corner.bracket_above.Given as goal

abbrev pub invariant-loop-high : goal.invariant-loop-high
invariant-loop-high l = record {
  order : l.low ≤ l.high;
  within : l.high ≤ length l.corners;
  under : AllWithin (λ c. is_before l.x l.y c ≡ true) l.corners 0 l.low;
}

abbrev pub decreases-loop-high : goal.decreases-loop-high
decreases-loop-high l = length l.corners - l.low
