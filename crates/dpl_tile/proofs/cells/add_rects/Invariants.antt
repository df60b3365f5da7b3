use Rattle.std.proofs.Common.{◌+◌, ◌≤◌, length, take}
use Rattle.std.specs.List.{sum_by}
use Rattle.dpl_tile.specs.Adding.{Adds}
use Rattle.dpl_tile.specs.Tiles.{cells_met}
use Rattle.dpl_tile.specs.Kept.{IsMet}
use Rattle.dpl_tile.proofs.Adding.{OfFirst}
use Rattle.dpl_tile.proofs.Loops.{Nth}
use Rattle.dpl_tile.proofs.cells.add_rects.Given as goal

abbrev pub invariant-loop-r : goal.invariant-loop-r
invariant-loop-r l =
    record {
      added : Adds (OfFirst (Nth (IsMet l.initial.grid) l.rects) l.r-index) l.initial.places.items l.places.items;
      count : length l.places.items ≤ length l.initial.places.items + sum_by (cells_met l.initial.grid) (take l.r-index l.rects);
    }
