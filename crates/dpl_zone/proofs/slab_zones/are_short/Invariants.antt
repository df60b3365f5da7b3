use Rattle.std.proofs.Common.{ℕ, ◌<◌}
use Rattle.dpl_shade.specs.Shading.{IsShort}
use Rattle.dpl_zone.proofs.slab_zones.are_short.Given as goal

abbrev pub invariant-loop-item : goal.invariant-loop-item
invariant-loop-item l = (n : ℕ) → n < l.item-index → IsShort l.overlap l.items n
