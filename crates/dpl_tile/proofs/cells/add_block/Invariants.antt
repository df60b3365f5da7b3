use Rattle.std.proofs.Common.{◌+◌, ◌-◌, ◌*◌, ◌≤◌, length}
use Rattle.dpl_tile.specs.Adding.{Adds}
use Rattle.dpl_tile.proofs.Loops.{IsInBlockTo}
use Rattle.dpl_tile.proofs.cells.add_block.Given as goal

abbrev pub invariant-loop-row : goal.invariant-loop-row
invariant-loop-row l =
    record {
      from : l.block.row0 ≤ l.row;
      added : Adds (IsInBlockTo l.block l.row) l.initial.places.items l.places.items;
      count : length l.places.items ≤ length l.initial.places.items + (l.row - l.block.row0) * (l.block.column1 - l.block.column0);
    }
