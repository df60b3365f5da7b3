use Rattle.std.proofs.Common.{◌+◌, ◌≤◌, length, take}
use Rattle.dpl_tile.specs.Adding.{Adds}
use Rattle.dpl_tile.specs.Tiles.{pairs_of}
use Rattle.dpl_tile.specs.Kept.{IsMetByAny}
use Rattle.dpl_tile.proofs.Adding.{OfFirst}
use Rattle.dpl_tile.proofs.Loops.{Nth}
use Rattle.dpl_tile.proofs.cells.add_parts.Given as goal

abbrev pub invariant-loop-part : goal.invariant-loop-part
invariant-loop-part l =
    record {
      added : Adds (OfFirst (Nth (IsMetByAny l.initial.grid) l.parts) l.part-index) l.initial.places.items l.places.items;
      count : length l.places.items ≤ length l.initial.places.items + pairs_of l.initial.grid (take l.part-index l.parts);
    }
