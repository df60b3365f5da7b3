-- Pairs of rectangles of different owners that lie close to one another.
use Rattle.std.specs.Prelude.{◌≢◌, ℕ, ◌<◌, pos, ◌+ℤ◌, ◌<ℤ◌, List, length, slice_index_or}
use Rattle.dpl_spec_split.specs.declared.Rect.{Rect}
use Rattle.dpl_join.specs.declared.items.Item.{Item}

-- fewer than rule columns and fewer than rule rows lie between them
pub record AreClose (rule : ℕ) (a b : Rect) : Type 0 where
  pub right : b.x0 <ℤ (a.x1 +ℤ pos rule)
  pub left : a.x0 <ℤ (b.x1 +ℤ pos rule)
  pub high : b.y0 <ℤ (a.y1 +ℤ pos rule)
  pub low : a.y0 <ℤ (b.y1 +ℤ pos rule)

abbrev pub no_item : Item
no_item = record { rect = record { x0 = pos 0; y0 = pos 0; x1 = pos 0; y1 = pos 0 }; owner = 0 }

abbrev pub item_at : List Item → ℕ → Item
item_at items i = slice_index_or items i no_item

-- the numbers of two items of different owners that are close, the smaller first
pub record IsPair (rule : ℕ) (items : List Item) (p : ℕ × ℕ) : Type 0 where
  pub order : p.0 < p.1
  pub known : p.1 < length items
  pub apart : (item_at items p.0).owner ≢ (item_at items p.1).owner
  pub close : AreClose rule (item_at items p.0).rect (item_at items p.1).rect
