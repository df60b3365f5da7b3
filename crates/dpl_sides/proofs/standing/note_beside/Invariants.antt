use Rattle.std.proofs.Common.{take}
use Rattle.dpl_sides.specs.Standing.{StandsFrom}
use Rattle.dpl_sides.specs.Noted.{AreSidesNoted}
use Rattle.dpl_sides.specs.Pieces.{parts_in}
use Rattle.dpl_sides.proofs.standing.note_beside.Given as goal

abbrev pub invariant-loop-number : goal.invariant-loop-number
invariant-loop-number l = AreSidesNoted (StandsFrom l.side (parts_in l.pieces) l.from) l.zones (take l.number-index l.own) l.initial.noted l.noted
