-- Slabs of different owners that are near, and the cells in which they may be.
use Rattle.std.specs.Prelude.{◌≡◌, ◌≢◌, ◌⊎◌, ◌↔◌, ℕ, ◌<◌, ◌≤◌, ◌^◌, pos, ◌+ℤ◌, ◌-ℤ◌, List, [], length, slice_index, slice_index_or}
use Rattle.std.specs.Int.{int_min, int_max}
use Rattle.std.specs.List.{All, Contains}
use Rattle.dpl_spec_split.specs.declared.Rect.{Rect}
use Rattle.dpl_spec_split.specs.declared.Spacing.{Spacing}
use Rattle.dpl_spec_split.specs.Graphs.{Precedes}
use Rattle.dpl_spec_split.specs.Squares.{AreNear, Has}
use Rattle.dpl_slabs.specs.Parts.{AreParts}
use Rattle.dpl_join.specs.declared.items.Item.{Item}
use Rattle.dpl_join.specs.Pairs.{IsPair, item_at}
use Rattle.dpl_tile.specs.declared.grid.Grid.{Grid}
use Rattle.dpl_tile.specs.declared.meetings.Meeting.{Meeting}
use Rattle.dpl_tile.specs.Kept.{IsMet, IsOver, IsSound, IsClose}

-- the items are the slabs of the parts, each with the number of its part
abbrev pub AreItemsOf : List (List Rect) → List Item → Type 0
AreItemsOf parts items = (item : Item) → Contains items item ↔ ((item.owner < length parts) × Contains (slice_index_or parts item.owner []) item.rect)

-- what of the first lies within the rule of the second, by columns and by rows
abbrev pub reached : ℕ → Rect → Rect → Rect
reached rule a b = record {
  x0 = int_max a.x0 (b.x0 -ℤ pos rule);
  y0 = int_max a.y0 (b.y0 -ℤ pos rule);
  x1 = int_min a.x1 (b.x1 +ℤ pos rule);
  y1 = int_min a.y1 (b.y1 +ℤ pos rule);
}

-- the place of a cell that has a square of one that may be near the other
abbrev pub IsMetByPair : ℕ → Grid → Rect → Rect → ℕ × ℕ → Type 0
IsMetByPair rule g a b e = IsMet g (reached rule a b) e ⊎ IsMet g (reached rule b a) e

-- slabs of different owners that are near
pub record AreFoes (spacing : Spacing) (owners : List ℕ) (a b : Item) : Type 0 where
  pub apart : slice_index owners a.owner ≢ slice_index owners b.owner
  pub near : AreNear spacing (Has a.rect) (Has b.rect)

-- the pair is of such slabs, and the cell has a square of one that may be near the other
pub record IsMeetingOf (spacing : Spacing) (owners : List ℕ) (g : Grid) (items : List Item) (pair : ℕ × ℕ) (m : Meeting) : Type 0 where
  pub first : m.first ≡ pair.0
  pub second : m.second ≡ pair.1
  pub foes : AreFoes spacing owners (item_at items pair.0) (item_at items pair.1)
  pub met : IsMetByPair spacing.rule g (item_at items pair.0).rect (item_at items pair.1).rect m.place

-- one of the pairs has this meeting
abbrev pub IsMeetingAmong : Spacing → List ℕ → Grid → List Item → List (ℕ × ℕ) → Meeting → Type 0
IsMeetingAmong spacing owners g items pairs m = (pair : ℕ × ℕ) × Contains pairs pair × IsMeetingOf spacing owners g items pair m

-- some pair has this meeting
abbrev pub IsMeeting : Spacing → List ℕ → Grid → List Item → Meeting → Type 0
IsMeeting spacing owners g items m = IsPair spacing.rule items (m.first, m.second) × IsMeetingOf spacing owners g items (m.first, m.second) m

-- no place goes before one that stands earlier
abbrev pub RiseByPlace : List Meeting → Type 0
RiseByPlace ms = (i j : ℕ) (d : Meeting) → i ≤ j → j < length ms → Precedes (slice_index_or ms j d).place (slice_index_or ms i d).place → ⊥

-- the meetings, by place
pub record AreMeetings (spacing : Spacing) (owners : List ℕ) (g : Grid) (items : List Item) (ms : List Meeting) : Type 0 where
  pub all : (m : Meeting) → Contains ms m ↔ IsMeeting spacing owners g items m
  pub rise : RiseByPlace ms

-- the meetings before number n are of places before this one, and no others are
pub record IsStart (ms : List Meeting) (place : ℕ × ℕ) (n : ℕ) : Type 0 where
  pub within : n ≤ length ms
  pub under : (k : ℕ) (d : Meeting) → k < n → k < length ms → Precedes (slice_index_or ms k d).place place
  pub over : (k : ℕ) (d : Meeting) → n ≤ k → k < length ms → Precedes (slice_index_or ms k d).place place → ⊥

-- from one number on the meetings before another are of the place, and the next one isn't
pub record AreAt (ms : List Meeting) (place : ℕ × ℕ) (start end : ℕ) : Type 0 where
  pub from : start ≤ end
  pub within : end ≤ length ms
  pub here : (k : ℕ) (d : Meeting) → start ≤ k → k < end → (slice_index_or ms k d).place ≡ place
  pub next : (d : Meeting) → end < length ms → (slice_index_or ms end d).place ≡ place → ⊥

-- what a plan keeps
pub record IsKept (parts : List (List Rect)) (owners : List ℕ) (spacing : Spacing) (items : List Item) (meetings : List Meeting) (grid : Grid) (places : List (ℕ × ℕ)) : Type 0 where
  pub owned : length owners ≡ length parts
  pub parted : AreParts parts
  pub corner : spacing.corner ≤ spacing.rule
  pub listed : AreItemsOf parts items
  pub over : All (λ (item : Item). IsOver grid item.rect) items
  pub met : AreMeetings spacing owners grid items meetings
  pub few : length places < 2 ^ 32
  pub sound : IsSound grid
  pub close : All (IsClose grid) places
