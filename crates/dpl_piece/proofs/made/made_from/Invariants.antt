use Rattle.std.proofs.Common.{◌≤◌, ◌+◌}
use Rattle.std.specs.List.{All}
use Rattle.dpl_piece.specs.Made.{AreMade, IsOfPlaces}
use Rattle.dpl_piece.proofs.made.made_from.Given as goal

abbrev pub invariant-loop-at : goal.invariant-loop-at
invariant-loop-at g l =
    record {
      from : l.place ≤ l.at;
      upto : l.at ≤ l.place + l.count;
      made : AreMade l.features l.zones l.made;
      places : All (IsOfPlaces l.zones l.sorted l.place l.at) l.made.features.items;
    }
