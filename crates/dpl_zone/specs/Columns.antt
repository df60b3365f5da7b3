-- The items of some parts.
use Rattle.std.specs.Prelude.{ℕ, ◌<◌, ◌≤◌, List, length}
use Rattle.dpl_spec_split.specs.declared.Rect.{Rect}
use Rattle.dpl_spec_split.specs.Zones.{part_at}
use Rattle.dpl_join.specs.declared.items.Item.{Item}
use Rattle.dpl_shade.specs.Items.{AreInOrder, IsOwned, OwnersRise}
use Rattle.dpl_zone.specs.Owned.{IsSetOf, transposed_parts}

-- the items are the slabs of the parts from number start up to but not end, each owner's in order
pub record AreSetsBetween (parts : List (List Rect)) (start end : ℕ) (items : List Item) : Type 0 where
  pub known : (r : Rect) (k : ℕ) → IsOwned items r k → (start ≤ k) × (k < end)
  pub each : (k : ℕ) → start ≤ k → k < end → IsSetOf items k (part_at parts k)
  pub rise : OwnersRise items
  pub order : AreInOrder items

-- the items are the columns of the parts, each owner's in order
abbrev pub AreColumns : List (List Rect) → List Item → Type 0
AreColumns parts items = AreSetsBetween (transposed_parts parts) 0 (length parts) items
