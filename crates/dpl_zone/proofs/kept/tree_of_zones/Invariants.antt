use Rattle.dpl_zone.proofs.Keeping.{OfFirstZones}
use Rattle.dpl_zone.proofs.kept.tree_of_zones.Given as goal

abbrev pub invariant-loop-z : goal.invariant-loop-z
invariant-loop-z l = OfFirstZones l.zones l.z-index l.items
