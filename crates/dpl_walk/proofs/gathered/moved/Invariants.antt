use Rattle.std.proofs.Common.{◌≡◌, map, take}
use Rattle.dpl_spec_elements.specs.Motions.{image}
use Rattle.dpl_walk.proofs.gathered.moved.Given as goal

abbrev pub invariant-loop-point : goal.invariant-loop-point
invariant-loop-point l = l.images.items ≡ map (image l.place) (take l.point-index l.points)
