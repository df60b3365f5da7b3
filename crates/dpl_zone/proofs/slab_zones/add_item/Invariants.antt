use Rattle.std.specs.Prelude.{◌≡◌, ◌⊎◌, ◌↔◌}
use Rattle.std.specs.List.{Contains}
use Rattle.dpl_spec_split.specs.declared.Zone.{Zone}
use Rattle.dpl_join.specs.Pairs.{item_at}
use Rattle.dpl_zone.proofs.Features.{FirstOf}
use Rattle.dpl_zone.proofs.slab_zones.add_item.Given as goal

abbrev pub invariant-loop-rect : goal.invariant-loop-rect
invariant-loop-rect l = (z : Zone) → Contains l.zones.items z ↔ (Contains l.initial.zones.items z ⊎ ((z.feature ≡ (item_at l.items l.fn.at.number).owner) × FirstOf l.rect-items l.rect-index z.rect))
