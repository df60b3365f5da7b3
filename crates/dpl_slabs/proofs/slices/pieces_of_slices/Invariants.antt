use Rattle.std.proofs.Common.{◌++◌}
use Rattle.std.specs.List.{All}
use Rattle.dpl_slabs.specs.Made.{IsSlice}
use Rattle.dpl_slabs.specs.Slices.{Without, ArePiecesBelow}
use Rattle.dpl_slabs.proofs.slices.pieces_of_slices.Given as goal

abbrev pub invariant-loop-cut : goal.invariant-loop-cut
invariant-loop-cut g l =
    record {
      below : ArePiecesBelow l.low (Without l.rects l.holes) (l.done.items ++ l.growing.items);
      made : All (IsSlice l.rects l.holes) l.made.items;
    }
