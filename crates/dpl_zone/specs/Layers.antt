-- The features of a layer, and zones by feature.
use Rattle.std.specs.Prelude.{◌≡◌, ℕ, ◌<◌, ◌≤◌, List, length, slice_index_or}
use Rattle.std.specs.List.{Contains}
use Rattle.dpl_spec_split.specs.declared.Spacing.{Spacing}
use Rattle.dpl_spec_split.specs.declared.Rect.{Rect}
use Rattle.dpl_spec_split.specs.declared.Zone.{Zone}
use Rattle.dpl_spec_split.specs.Loops.{farthest}
use Rattle.dpl_spec_split.specs.Squares.{AreTouching, Has, IsSolidWithin}
use Rattle.dpl_slabs.specs.Parts.{union_of}
use Rattle.dpl_tree.specs.declared.items.Item.{Item}
use Rattle.dpl_tree.specs.Trees.{HasItem}
use Rattle.dpl_spec_split.specs.Zones.{IsKeptZone, part_at, transposed_rect}

-- a kept zone of its part
abbrev pub IsPartZone : Spacing → ℕ → List (List Rect) → Zone → Type 0
IsPartZone spacing overlap parts z = IsKeptZone spacing overlap (union_of parts) (part_at parts z.feature) z.rect

-- a zone of the list that is of the same feature touches this one
abbrev pub TouchesOwn : List Zone → Zone → Type 0
TouchesOwn flat z = (h : Zone) × Contains flat h × (h.feature ≡ z.feature) × AreTouching (Has h.rect) (Has z.rect)

-- zones of one feature that touch
abbrev pub TouchIn : Zone → Zone → Type 0
TouchIn h z = (h.feature ≡ z.feature) × AreTouching (Has h.rect) (Has z.rect)

abbrev pub FeaturesRise : List Zone → Type 0
FeaturesRise zones = (i j : ℕ) (d : Zone) → i ≤ j → j < length zones → (slice_index_or zones i d).feature ≤ (slice_index_or zones j d).feature

-- the zones from place start up to but not end are of features below k, and the one at end isn't
pub record IsPassed (zones : List Zone) (start k end : ℕ) : Type 0 where
  pub from : start ≤ end
  pub within : end ≤ length zones
  pub before : (i : ℕ) (d : Zone) → start ≤ i → i < end → i < length zones → (slice_index_or zones i d).feature < k
  pub after : (d : Zone) → end < length zones → k ≤ (slice_index_or zones end d).feature

-- the items of a tree are solid rectangles in the range of a layer
abbrev pub AreItemsWithin : List Item → Type 0
AreItemsWithin items = (r : Rect) (k : ℕ) → HasItem items r k → IsSolidWithin farthest r

-- an item of the zone's feature touches it
abbrev pub TouchesItem : List Item → Zone → Type 0
TouchesItem items z = (h : Rect) × HasItem items h z.feature × AreTouching (Has h) (Has z.rect)

-- x and y are exchanged
abbrev pub transposed_zone : Zone → Zone
transposed_zone z = record { rect = transposed_rect z.rect; feature = z.feature }
