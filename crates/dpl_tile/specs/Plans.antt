-- Plans: parts, their owners, a spacing, and tiles.
use Rattle.std.specs.Prelude.{◌≡◌, ◌≢◌, ◌⊎◌, ℕ, ◌<◌, List, length, slice_index}
use Rattle.std.specs.List.{Contains}
use Rattle.dpl_spec_split.specs.declared.Pt.{Pt}
use Rattle.dpl_spec_split.specs.declared.Spacing.{Spacing}
use Rattle.dpl_spec_split.specs.declared.Rect.{Rect}
use Rattle.dpl_spec_split.specs.Squares.{Region, Has, Near}
use Rattle.dpl_join.specs.declared.items.Item.{Item}
use Rattle.dpl_join.specs.Pairs.{item_at}
use Rattle.dpl_tile.specs.declared.meetings.Meeting.{Meeting}
use Rattle.dpl_tile.specs.Tiles.{AreTiles}

pub record Planned : Type 0 where
  pub parts : List (List Rect)
  pub owners : List ℕ
  pub spacing : Spacing
  pub cells : List Rect
  pub items : List Item

-- the plan of these, with the tiles for a side that was asked for
pub record IsPlan (parts : List (List Rect)) (owners : List ℕ) (spacing : Spacing) (tile : ℕ) (plan : Planned) : Type 0 where
  pub of_parts : plan.parts ≡ parts
  pub of_owners : plan.owners ≡ owners
  pub of_spacing : plan.spacing ≡ spacing
  pub tiles : AreTiles parts tile plan.cells

-- numbers of two of the items, of pieces of different owners, the smaller first
pub record AreApart (plan : Planned) (i j : ℕ) : Type 0 where
  pub order : i < j
  pub known : j < length plan.items
  pub owners : slice_index plan.owners (item_at plan.items i).owner ≢ slice_index plan.owners (item_at plan.items j).owner

-- meetings of items of different owners, among them all that are near by a square of the set
pub record HaveAllNear (plan : Planned) (a : Region) (ms : List Meeting) : Type 0 where
  pub apart : (m : Meeting) → Contains ms m → AreApart plan m.first m.second
  pub all : (i j : ℕ) (p q : Pt) → AreApart plan i j → Has (item_at plan.items i).rect p → Has (item_at plan.items j).rect q → Near plan.spacing p q → a p ⊎ a q
      → (m : Meeting) × Contains ms m × (m.first ≡ i) × (m.second ≡ j)
