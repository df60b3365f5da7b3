use Rattle.std.proofs.Common.{◌-◌, length, drop}
use Rattle.std.specs.List.{All}
use Rattle.dpl_spec_split.specs.Squares.{Covers}
use Rattle.dpl_spec_split.specs.Zones.{transposed}
use Rattle.dpl_slabs.specs.Blocks.{AreBlocksOf}
use Rattle.dpl_slabs.specs.Made.{IsBlockFrom}
use Rattle.dpl_slabs.proofs.blocks.slabs_of_blocks.Given as goal

abbrev pub invariant-loop-start : goal.invariant-loop-start
invariant-loop-start g l =
    record {
      blocks : AreBlocksOf (transposed (Covers l.initial.rects)) l.slabs.items (drop l.start l.rects);
      made : All (IsBlockFrom l.start l.rects) l.made.items;
    }

abbrev pub decreases-loop-start : goal.decreases-loop-start
decreases-loop-start g l = length l.rects - l.start
