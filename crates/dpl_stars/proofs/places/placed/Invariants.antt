use Rattle.std.proofs.Common.{take}
use Rattle.dpl_stars.specs.Places.{ArePlaced}
use Rattle.dpl_stars.proofs.places.placed.Given as goal

abbrev pub invariant-loop-edge : goal.invariant-loop-edge
invariant-loop-edge l = ArePlaced l.places (take l.edge-index l.edges) l.placed.items
