-- The rectangles of sets, by owner.
use Rattle.std.specs.Prelude.{ℕ, ◌<◌, ◌↔◌, List, length, map}
use Rattle.std.specs.List.{Contains}
use Rattle.dpl_spec_split.specs.declared.Rect.{Rect}
use Rattle.dpl_spec_split.specs.Loops.{farthest, AreRectsWithin}
use Rattle.dpl_spec_split.specs.Slabs.{AreSlabsOf}
use Rattle.dpl_spec_split.specs.Squares.{Region}
use Rattle.dpl_spec_split.specs.Zones.{part_at, transposed_rect}
use Rattle.dpl_join.specs.declared.items.Item.{Item}
use Rattle.dpl_shade.specs.Items.{IsOwned}

-- the owner's rectangle
abbrev pub owned_by : ℕ → Rect → Item
owned_by k r = record { rect = r; owner = k }

-- the owner's rectangles are the canonical slabs of a set in the range of a layer
pub record IsSetOf (items : List Item) (k : ℕ) (set : Region) : Type 0 where
  pub rects : List Rect
  pub slabs : AreSlabsOf set rects
  pub within : AreRectsWithin farthest rects
  pub has : (r : Rect) → IsOwned items r k ↔ Contains rects r

-- so are those of each part's number, and there are no others
pub record AreSets (parts : List (List Rect)) (items : List Item) : Type 0 where
  pub known : (r : Rect) (k : ℕ) → IsOwned items r k → k < length parts
  pub each : (k : ℕ) → k < length parts → IsSetOf items k (part_at parts k)

-- the parts, transposed
abbrev pub transposed_parts : List (List Rect) → List (List Rect)
transposed_parts parts = map (map transposed_rect) parts
