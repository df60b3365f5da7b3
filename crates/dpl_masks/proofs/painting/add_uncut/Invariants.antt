use Rattle.std.proofs.Common.{map}
use Rattle.dpl_orient.specs.Masks.{is_second}
use Rattle.dpl_masks.specs.Sheets.{IsSheetTo}
use Rattle.dpl_masks.proofs.painting.add_uncut.Given as goal

abbrev pub invariant-loop-k : goal.invariant-loop-k
invariant-loop-k l = IsSheetTo l.cut.parts l.cut.owners.items l.cut.zones.items l.cut.sides.items l.cut.wholes.items
    (map is_second l.colours) l.inks (is_second l.letter) l.k 0 l.rects.items
