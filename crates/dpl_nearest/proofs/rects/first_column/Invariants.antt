use Rattle.std.proofs.Common.{◌≤ℤ◌, ◌<ℤ◌, ◌-ℤ◌}
use Rattle.std.specs.Prelude.{unsigned_abs}
use Rattle.dpl_spec_split.specs.Squares.{AreNear, Has}
use Rattle.dpl_nearest.specs.Search.{ItemCovers, columns_left}
use Rattle.dpl_nearest.proofs.rects.first_column.Given as goal

abbrev pub invariant-loop-high : goal.invariant-loop-high
invariant-loop-high l = record {
  low : l.r.x0 ≤ℤ l.low;
  between : l.low <ℤ l.high;
  high : l.high ≤ℤ l.r.x1;
  none : ¬ AreNear l.spacing (Has (columns_left l.r l.low)) (ItemCovers l.owners l.others);
  some : AreNear l.spacing (Has (columns_left l.r l.high)) (ItemCovers l.owners l.others);
}

abbrev pub decreases-loop-high : goal.decreases-loop-high
decreases-loop-high l = unsigned_abs (l.high -ℤ l.low)
