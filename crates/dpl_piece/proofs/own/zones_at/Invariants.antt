use Rattle.std.proofs.Common.{◌≡◌, map, take}
use Rattle.dpl_sides.specs.Pieces.{zone_at}
use Rattle.dpl_piece.proofs.own.zones_at.Given as goal

abbrev pub invariant-loop-number : goal.invariant-loop-number
invariant-loop-number l = l.some.items ≡ map (zone_at l.zones) (take l.number-index l.numbers)
