use Rattle.std.proofs.Common.{◌≡◌, ◌≤◌, false, length}
use Rattle.std.specs.List.{AllWithin}
use Rattle.dpl_sides.specs.Corners.{is_before}
use Rattle.dpl_sides.proofs.corner.bracket_below.Given as goal

abbrev pub invariant-loop-low : goal.invariant-loop-low
invariant-loop-low l = record {
  order : l.low ≤ l.high;
  within : l.high ≤ length l.corners;
  over : AllWithin (λ c. is_before l.x l.y c ≡ false) l.corners l.high (length l.corners);
}

abbrev pub decreases-loop-low : goal.decreases-loop-low
decreases-loop-low l = l.low
