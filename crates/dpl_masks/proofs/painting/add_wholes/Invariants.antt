use Rattle.std.proofs.Common.{length, map}
use Rattle.dpl_orient.specs.Masks.{is_second}
use Rattle.dpl_masks.specs.Sheets.{IsSheetTo}
use Rattle.dpl_masks.proofs.painting.add_wholes.Given as goal

abbrev pub invariant-loop-k : goal.invariant-loop-k
invariant-loop-k l = IsSheetTo l.cut.parts l.cut.owners.items l.cut.zones.items l.cut.sides.items l.cut.wholes.items
    (map is_second l.colours) l.inks (is_second l.letter) (length l.cut.parts) l.k l.rects.items
