use Rattle.std.proofs.Common.{◌≡◌, map, take}
use Rattle.dpl_sides.specs.Noted.{zone_corner}
use Rattle.dpl_sides.proofs.corner.zone_corners.Given as goal

abbrev pub invariant-loop-number : goal.invariant-loop-number
invariant-loop-number l = l.corners.items ≡ map (zone_corner l.kind l.zones) (take l.number-index l.own)
