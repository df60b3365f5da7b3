use Rattle.std.proofs.Common.{◌+◌, ◌-◌, ◌≤◌, length}
use Rattle.dpl_tile.specs.Adding.{Adds}
use Rattle.dpl_tile.proofs.Loops.{IsInRowTo}
use Rattle.dpl_tile.proofs.cells.add_row.Given as goal

abbrev pub invariant-loop-column : goal.invariant-loop-column
invariant-loop-column l =
    record {
      from : l.initial.block.column0 ≤ l.column;
      added : Adds (IsInRowTo l.row l.initial.block l.column) l.initial.places.items l.places.items;
      count : length l.places.items ≤ length l.initial.places.items + (l.column - l.initial.block.column0);
    }
