use Rattle.dpl_sides.specs.Sided.{numbers_in, sides_in}
use Rattle.dpl_sides.proofs.Moved.{AreMovedBelow}
use Rattle.dpl_sides.proofs.noted.note_moved.Given as goal

abbrev pub invariant-loop-zone : goal.invariant-loop-zone
invariant-loop-zone l = AreMovedBelow l.zone-index l.from (numbers_in l.zones) (sides_in l.side l.zones) l.initial.noted l.noted
