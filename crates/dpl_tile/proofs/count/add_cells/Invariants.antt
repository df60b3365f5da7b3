use Rattle.std.proofs.Common.{◌≡◌, ◌+◌, ◌≤◌, take}
use Rattle.std.specs.List.{sum_by}
use Rattle.dpl_tile.specs.Tiles.{cells_met, most_pairs}
use Rattle.dpl_tile.proofs.count.add_cells.Given as goal

abbrev pub invariant-loop-r : goal.invariant-loop-r
invariant-loop-r l =
    record {
      sum : l.n ≡ l.before + sum_by (cells_met l.initial.grid) (take l.r-index l.rects);
      few : l.n ≤ most_pairs;
    }
