-- Search trees over rectangles, as lists of items.
use Rattle.std.specs.Prelude.{◌≡◌, ◌≢◌, ℕ, ◌<◌, ◌≤◌, ◌⊎◌, ◌↔◌, ◌≤ℤ◌, Bool, true, false, List, [], length, map, slice_index_or}
use Rattle.std.specs.List.{Contains}
use Rattle.dpl_spec_split.specs.declared.Rect.{Rect}
use Rattle.dpl_spec_split.specs.Zones.{transposed_rect}
use Rattle.dpl_tree.specs.declared.items.Item.{Item}
use Rattle.dpl_tree.specs.declared.owners.Owners.{Owners}
use Rattle.dpl_tree.specs.declared.owners.Owners.TheVariants.{All, But, Only, Above}

pub record LiesIn (inner outer : Rect) : Type 0 where
  pub left : outer.x0 ≤ℤ inner.x0
  pub right : inner.x1 ≤ℤ outer.x1
  pub low : outer.y0 ≤ℤ inner.y0
  pub high : inner.y1 ≤ℤ outer.y1

-- one of the items is the owner's rectangle
abbrev pub HasItem : List Item → Rect → ℕ → Type 0
HasItem items r k = (item : Item) × Contains items item × (item.rect ≡ r) × (item.owner ≡ k)

-- the rectangles of the items
abbrev pub rects_of : List Item → List Rect
rects_of items = map (λ item. item.rect) items

-- the items are the rectangles of the parts, each with the number of its part
abbrev pub AreItemsOf : List (List Rect) → List Item → Type 0
AreItemsOf parts items = (r : Rect) (k : ℕ) → HasItem items r k ↔ ((k < length parts) × Contains (slice_index_or parts k []) r)

-- no square in common with the window
abbrev pub LiesApart : Rect → Rect → Type 0
LiesApart window r = (r.x1 ≤ℤ window.x0) ⊎ ((window.x1 ≤ℤ r.x0) ⊎ ((r.y1 ≤ℤ window.y0) ⊎ (window.y1 ≤ℤ r.y0)))

-- an owner that isn't sought
abbrev pub IsLeftOut : Owners → ℕ → Type 0
IsLeftOut All k = ⊥
IsLeftOut (But j) k = k ≡ j
IsLeftOut (Only j) k = k ≢ j
IsLeftOut (Above j) k = k ≤ j

-- what a search doesn't find
abbrev pub IsMissed : Rect → Owners → Item → Type 0
IsMissed window owners item = LiesApart window item.rect ⊎ IsLeftOut owners item.owner

-- the items from one number on, below another, are missed
abbrev pub ArePassed : Rect → Owners → List Item → ℕ → ℕ → Type 0
ArePassed window owners items from n = (j : ℕ) (d : Item) → from ≤ j → j < n → j < length items → IsMissed window owners (slice_index_or items j d)

-- transposed
abbrev pub transposed_item : Item → Item
transposed_item item = record { rect = transposed_rect item.rect; owner = item.owner }

-- the items, or the same transposed
abbrev pub seen : Bool → List Item → List Item
seen true items = map transposed_item items
seen false items = items
