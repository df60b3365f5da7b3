use Rattle.std.proofs.Common.{◌≡◌, map, take}
use Rattle.dpl_sides.specs.Pieces.{rect_at}
use Rattle.dpl_piece.proofs.own.holes_at.Given as goal

abbrev pub invariant-loop-number : goal.invariant-loop-number
invariant-loop-number l = l.holes.items ≡ map (rect_at l.zones) (take l.number-index l.numbers)
