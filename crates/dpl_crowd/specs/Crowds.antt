-- Pieces with many conflicts, and what a search finds near a slab.
use Rattle.std.specs.Prelude.{◌≡◌, ◌≢◌, ℕ, ◌<◌, List, length, slice_index}
use Rattle.dpl_spec_split.specs.declared.Rect.{Rect}
use Rattle.dpl_spec_split.specs.declared.Spacing.{Spacing}
use Rattle.dpl_spec_split.specs.Graphs.{Graph}
use Rattle.dpl_spec_split.specs.Loops.{farthest}
use Rattle.dpl_spec_split.specs.Pieces.{Conflict}
use Rattle.dpl_spec_split.specs.Squares.{AreNear, Has, IsSolidWithin}
use Rattle.dpl_tree.specs.declared.items.Item.{Item}
use Rattle.dpl_tree.specs.Trees.{HasItem}

-- the slabs of each piece, the feature of each, and how far apart features stay
pub record Crowded : Type 0 where
  pub parts : List (List Rect)
  pub owners : List ℕ
  pub spacing : Spacing

-- the graph of their conflicts
abbrev pub graph_in : Crowded → Graph
graph_in crowd = Conflict crowd.spacing crowd.parts crowd.owners

-- an item of another feature than piece k that is near a slab of it
pub record IsFoe (spacing : Spacing) (owners : List ℕ) (k : ℕ) (r : Rect) (item : Item) : Type 0 where
  pub apart : slice_index owners k ≢ slice_index owners item.owner
  pub near : AreNear spacing (Has r) (Has item.rect)

-- the owner of such an item
abbrev pub IsFoeOwner : Spacing → List ℕ → ℕ → Rect → Item → ℕ → Type 0
IsFoeOwner spacing owners k r item w = IsFoe spacing owners k r item × (w ≡ item.owner)

-- the owner of such an item among some
abbrev pub IsFoeAmong : Spacing → List ℕ → ℕ → Rect → List Item → ℕ → Type 0
IsFoeAmong spacing owners k r items w = (s : Rect) × HasItem items s w × IsFoe spacing owners k r (record { rect = s; owner = w })

-- rectangles within the range of a layer, whose owners have features
abbrev pub AreKnown : List ℕ → List Item → Type 0
AreKnown owners items = (s : Rect) (w : ℕ) → HasItem items s w → (w < length owners) × IsSolidWithin farthest s
