use Rattle.std.proofs.Common.{◌≡◌, ◌≤◌, take}
use Rattle.dpl_tile.specs.Tiles.{pairs_of, most_pairs}
use Rattle.dpl_tile.proofs.count.has_few_pairs.Given as goal

abbrev pub invariant-loop-part : goal.invariant-loop-part
invariant-loop-part l =
    record {
      sum : l.n ≡ pairs_of l.initial.grid (take l.part-index l.parts);
      few : l.n ≤ most_pairs;
    }
