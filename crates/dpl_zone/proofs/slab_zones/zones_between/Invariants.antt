use Rattle.dpl_shade.specs.Shading.{IsStart}
use Rattle.dpl_zone.specs.ItemZones.{AreOfItems}
use Rattle.dpl_zone.specs.Ways.{IsItemZone}
use Rattle.dpl_zone.proofs.slab_zones.zones_between.Given as goal

abbrev pub invariant-loop-n : goal.invariant-loop-n
invariant-loop-n l =
    AreOfItems (IsItemZone l.shades.spacing l.shades.overlap l.items) l.items l.start l.n l.zones.items
    × IsStart l.shades.found.items l.n l.place
