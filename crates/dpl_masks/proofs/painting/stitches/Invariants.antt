use Rattle.std.proofs.Common.{map}
use Rattle.dpl_orient.specs.Masks.{is_second}
use Rattle.dpl_masks.specs.Painting.{AreFirstStitches}
use Rattle.dpl_masks.proofs.painting.stitches.Given as goal

abbrev pub invariant-loop-k : goal.invariant-loop-k
invariant-loop-k l = AreFirstStitches l.k l.sides (map is_second l.colours) l.stitches.items
