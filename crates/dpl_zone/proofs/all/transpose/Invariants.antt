use Rattle.std.proofs.Common.{◌≡◌, ◌++◌, map, take, drop}
use Rattle.dpl_zone.specs.Layers.{transposed_zone}
use Rattle.dpl_zone.proofs.all.transpose.Given as goal

abbrev pub invariant-loop-i : goal.invariant-loop-i
invariant-loop-i l = l.zones.items ≡ map transposed_zone (take l.i l.initial.zones.items) ++ drop l.i l.initial.zones.items
