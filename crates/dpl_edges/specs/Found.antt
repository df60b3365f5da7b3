-- Edges of near slabs, as workers find them.
use Rattle.std.specs.Prelude.{◌≡◌, ℕ, ◌<◌, ◌≤◌, ◌%◌, ◌↔◌, List}
use Rattle.std.specs.List.{AllPairs, Contains}
use Rattle.dpl_spec_split.specs.declared.Rect.{Rect}
use Rattle.dpl_spec_split.specs.declared.Spacing.{Spacing}
use Rattle.dpl_spec_split.specs.Graphs.{Precedes}
use Rattle.dpl_slabs.specs.Parts.{AreParts}
use Rattle.dpl_join.specs.declared.items.Item.{Item}
use Rattle.dpl_join.specs.Joins.{Joined, home_of}
use Rattle.dpl_join.specs.Pairs.{IsPair, item_at}
use Rattle.dpl_tile.specs.Meetings.{AreFoes, AreItemsOf}
use Rattle.dpl_edges.specs.Meetings.{IsEnds}

-- the join of the slabs of parts
pub record IsJoinOf (parts : List (List Rect)) (spacing : Spacing) (join : Joined) : Type 0 where
  pub parted : AreParts parts
  pub listed : AreItemsOf parts join.items
  pub rule : join.rule ≡ spacing.rule

-- the edge of a pair of slabs of different owners that are near
abbrev pub IsFoesEdge : Spacing → List ℕ → List Item → ℕ × ℕ → ℕ × ℕ → Type 0
IsFoesEdge spacing owners items pair e =
    AreFoes spacing owners (item_at items pair.0) (item_at items pair.1) × IsEnds (item_at items pair.0).owner (item_at items pair.1).owner e

-- the edge of one of the pairs
abbrev pub IsFoesEdgeAmong : Spacing → List ℕ → List Item → List (ℕ × ℕ) → ℕ × ℕ → Type 0
IsFoesEdgeAmong spacing owners items pairs e = (pair : ℕ × ℕ) × Contains pairs pair × IsFoesEdge spacing owners items pair e

-- the edge of a close pair
abbrev pub IsFoundEdge : Spacing → List ℕ → Joined → ℕ × ℕ → Type 0
IsFoundEdge spacing owners join e = (pair : ℕ × ℕ) × IsPair join.rule join.items pair × IsFoesEdge spacing owners join.items pair e

-- the edge of a close pair that counts in a strip dealt to this one of so many workers
abbrev pub IsDealtEdge : Spacing → List ℕ → Joined → ℕ → ℕ → ℕ × ℕ → Type 0
IsDealtEdge spacing owners join workers worker e =
    (pair : ℕ × ℕ) × (home_of join pair % workers ≡ worker) × IsPair join.rule join.items pair × IsFoesEdge spacing owners join.items pair e

-- the edge, where its smaller number is one from low up to but not high
abbrev pub IsBetween : ℕ → ℕ → ℕ × ℕ → ℕ × ℕ → Type 0
IsBetween low high edge e = (e ≡ edge) × (low ≤ edge.0) × (edge.0 < high)

-- those of the edges whose smaller number is one from low up to but not high, in order, each once
pub record AreSortedBetween (found : List (ℕ × ℕ)) (low high : ℕ) (edges : List (ℕ × ℕ)) : Type 0 where
  pub ordered : AllPairs Precedes edges
  pub exactly : (e : ℕ × ℕ) → Contains edges e ↔ (Contains found e × (low ≤ e.0) × (e.0 < high))
