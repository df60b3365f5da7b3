-- The zones of items, and of parts.
use Rattle.std.specs.Prelude.{ℕ, ◌<◌, ◌↔◌, List, length}
use Rattle.std.specs.List.{Contains}
use Rattle.dpl_spec_split.specs.declared.Spacing.{Spacing}
use Rattle.dpl_spec_split.specs.declared.Rect.{Rect}
use Rattle.dpl_spec_split.specs.declared.Zone.{Zone}
use Rattle.dpl_spec_split.specs.Zones.{IsHorizontalZone, IsVerticalZone, part_at}
use Rattle.dpl_slabs.specs.Parts.{union_of}
use Rattle.dpl_join.specs.declared.items.Item.{Item}
use Rattle.dpl_join.specs.Pairs.{item_at}
use Rattle.dpl_shade.specs.Items.{own_in}
use Rattle.dpl_shade.specs.Rows.{GoesAbove, GoesBelow}
use Rattle.dpl_shade.specs.Shading.{IsDarkRow}
use Rattle.dpl_zone.specs.SlabZones.{IsLitZone}

-- a zone of item n
abbrev pub IsItemZone : Spacing → ℕ → List Item → ℕ → Rect → Type 0
IsItemZone spacing overlap items n =
    let own = own_in items (item_at items n).owner in
    let slab = (item_at items n).rect in
    IsLitZone overlap (GoesBelow own slab) (GoesAbove own slab) (IsDarkRow spacing items n) slab

-- the vertical zones of parts
abbrev pub AreUpright : Spacing → ℕ → List (List Rect) → List Zone → Type 0
AreUpright spacing overlap parts zones =
    (z : Zone) → Contains zones z ↔ ((z.feature < length parts) × IsVerticalZone spacing overlap (union_of parts) (part_at parts z.feature) z.rect)

-- the horizontal zones of parts
abbrev pub AreFlat : Spacing → ℕ → List (List Rect) → List Zone → Type 0
AreFlat spacing overlap parts zones =
    (z : Zone) → Contains zones z ↔ ((z.feature < length parts) × IsHorizontalZone spacing overlap (union_of parts) (part_at parts z.feature) z.rect)
