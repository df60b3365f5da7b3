-- Whether the owners of items go on past the items' ends.
use Rattle.std.specs.Prelude.{◌≡◌, ◌≢◌, ℕ, ◌<◌, ◌≤◌, ◌⊎◌, ◌↔◌, ◌≤ℤ◌, Bool, true, false, IsTrue, int_lt, int_le, ◌&&◌, ◌||◌, List, length, slice_index_or}
use Rattle.dpl_spec_split.specs.declared.Rect.{Rect}
use Rattle.dpl_join.specs.declared.items.Item.{Item}
use Rattle.dpl_join.specs.Pairs.{item_at}
use Rattle.dpl_shade.specs.declared.ends.Ends.{Ends}
use Rattle.dpl_shade.specs.Items.{own_in}
use Rattle.dpl_shade.specs.Rows.{GoesAbove, GoesBelow}

abbrev pub no_ends : Ends
no_ends = record { below = false; above = false }

abbrev pub ends_at : List Ends → ℕ → Ends
ends_at ends n = slice_index_or ends n no_ends

-- over begins where under ends, and they share at least a corner
pub record Meet (under over : Rect) : Type 0 where
  pub row : over.y0 ≡ under.y1
  pub left : over.x0 ≤ℤ under.x1
  pub right : under.x0 ≤ℤ over.x1

-- item k lies on item n, of the same owner
pub record IsOn (items : List Item) (n k : ℕ) : Type 0 where
  pub under : n < length items
  pub over : k < length items
  pub own : (item_at items k).owner ≡ (item_at items n).owner
  pub meet : Meet (item_at items n).rect (item_at items k).rect

-- the rectangle begins below the slab's end, or at it and left of the slab, with a column between them
abbrev pub comes_before : Rect → Rect → Bool
comes_before slab r = int_lt r.y0 slab.y1 || (int_le r.y0 slab.y1 && int_lt r.x1 slab.x0)

-- the items from number start up to but not end are the owner's, and those from number end on are not
pub record IsPart (items : List Item) (start end : ℕ) : Type 0 where
  pub some : start < end
  pub within : end ≤ length items
  pub own : (k : ℕ) → start ≤ k → k < end → (item_at items k).owner ≡ (item_at items start).owner
  pub other : end < length items → (item_at items end).owner ≢ (item_at items start).owner

-- of the items behind item n and before item end those before number first come before its end, and no others
pub record IsFirstOn (items : List Item) (n end first : ℕ) : Type 0 where
  pub behind : n < first
  pub within : first ≤ end
  pub before : (k : ℕ) → n < k → k < first → comes_before (item_at items n).rect (item_at items k).rect ≡ true
  pub after : (k : ℕ) → first ≤ k → k < end → comes_before (item_at items n).rect (item_at items k).rect ≡ false

-- it is marked that item k lies on item n
abbrev pub IsMarked : List Ends → ℕ → ℕ → Type 0
IsMarked ends n k = IsTrue (ends_at ends n).above × IsTrue (ends_at ends k).below

-- so it is of all that lies on the items from number start up to but not end
abbrev pub AreMarkedFrom : List Item → ℕ → ℕ → List Ends → Type 0
AreMarkedFrom items start end ends = (n k : ℕ) → start ≤ n → n < end → IsOn items n k → IsMarked ends n k

-- what is marked is so
pub record AreSound (items : List Item) (ends : List Ends) : Type 0 where
  pub sized : length ends ≡ length items
  pub above : (n : ℕ) → IsTrue (ends_at ends n).above → (k : ℕ) × IsOn items n k
  pub below : (n : ℕ) → IsTrue (ends_at ends n).below → (k : ℕ) × IsOn items k n

-- what was marked is marked
pub record IsMore (old new : List Ends) : Type 0 where
  pub above : (n : ℕ) → IsTrue (ends_at old n).above → IsTrue (ends_at new n).above
  pub below : (n : ℕ) → IsTrue (ends_at old n).below → IsTrue (ends_at new n).below

abbrev pub IsLive : List Bool → ℕ → Type 0
IsLive dead n = slice_index_or dead n false ≡ false

-- one of the items from number start up to but not end isn't dead
abbrev pub HasLive : List Bool → ℕ → ℕ → Type 0
HasLive dead start end = (k : ℕ) × (start ≤ k) × (k < end) × IsLive dead k

-- it is marked of all that lies on the items from number start up to but not end, where one of the two isn't dead
abbrev pub AreMarkedIfLive : List Item → List Bool → ℕ → ℕ → List Ends → Type 0
AreMarkedIfLive items dead start end ends = (n k : ℕ) → start ≤ n → n < end → IsOn items n k → IsLive dead n ⊎ IsLive dead k → IsMarked ends n k

-- the ends of a slab: whether the rectangles go on directly below it and directly above it
pub record AreEndsOf (rects : List Rect) (slab : Rect) (ends : Ends) : Type 0 where
  pub below : IsTrue ends.below ↔ GoesBelow rects slab
  pub above : IsTrue ends.above ↔ GoesAbove rects slab

-- the ends of all items that aren't dead
pub record AreEnds (items : List Item) (dead : List Bool) (ends : List Ends) : Type 0 where
  pub sized : length ends ≡ length items
  pub each : (n : ℕ) → n < length items → IsLive dead n → AreEndsOf (own_in items (item_at items n).owner) (item_at items n).rect (ends_at ends n)
