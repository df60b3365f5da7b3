use Rattle.std.proofs.Common.{◌-◌, length}
use Rattle.dpl_orient.specs.Masks.{is_second}
use Rattle.dpl_masks.specs.Sheets.{AreUnitedTo}
use Rattle.dpl_masks.proofs.united.united.Given as goal

abbrev pub invariant-loop-start : goal.invariant-loop-start
invariant-loop-start l = AreUnitedTo l.inked.cut l.colours l.inked.inks.items (is_second l.letter) l.patches l.start l.rects.items

abbrev pub decreases-loop-start : goal.decreases-loop-start
decreases-loop-start l = length l.patches - l.start
