-- Strips of 2^shift rows each, and the items that stand in them.
use Rattle.std.specs.Prelude.{◌≡◌, ℕ, ◌/◌, ◌^◌, ◌<◌, ◌≤◌, ◌⊎◌, ℤ, pos, ◌+ℤ◌, ◌-ℤ◌, ◌≤ℤ◌, unsigned_abs, List, [], ◌∷◌, ◌++◌, length, slice_index_or}
use Rattle.std.specs.Int.{int_max}
use Rattle.std.specs.List.{All, AllPairs, Contains}
use Rattle.dpl_spec_split.specs.declared.Rect.{Rect}
use Rattle.dpl_join.specs.declared.items.Item.{Item}
use Rattle.dpl_join.specs.Pairs.{item_at}

-- the strip of a row, where the first begins at row first
abbrev pub strip_of : ℤ → ℕ → ℤ → ℕ
strip_of first shift y = unsigned_abs (y -ℤ first) / 2 ^ shift

abbrev pub first_strip : ℤ → ℕ → Rect → ℕ
first_strip first shift r = strip_of first shift r.y0

-- the last strip that a rectangle meets with rule rows more above it
abbrev pub last_strip : ℤ → ℕ → ℕ → Rect → ℕ
last_strip first shift rule r = strip_of first shift (int_max ((r.y1 +ℤ pos rule) -ℤ pos 1) r.y0)

-- an item that begins at row first or above it, and begins and ends at row last or below it
pub record LiesWithin (first last : ℤ) (item : Item) : Type 0 where
  pub low : first ≤ℤ item.rect.y0
  pub begin : item.rect.y0 ≤ℤ last
  pub end : item.rect.y1 ≤ℤ last

-- the strip in which two rectangles count: that of the higher of their lowest rows
abbrev pub common_strip : ℤ → ℕ → Rect → Rect → ℕ
common_strip first shift a b = strip_of first shift (int_max a.y0 b.y0)

abbrev pub strip_at : List (List ℕ) → ℕ → List ℕ
strip_at strips k = slice_index_or strips k []

-- a number was added to the strips from low up to but not end
pub record IsAddedTo (number low end : ℕ) (old new : List (List ℕ)) : Type 0 where
  pub same : length new ≡ length old
  pub inside : (k : ℕ) → low ≤ k → k < end → strip_at new k ≡ strip_at old k ++ number ∷ []
  pub outside : (k : ℕ) → (k < low) ⊎ (end ≤ k) → strip_at new k ≡ strip_at old k

-- each of the first n items stands in all strips from its first to its last
pub record AreFiledTo (items : List Item) (n : ℕ) (first : ℤ) (shift rule : ℕ) (strips : List (List ℕ)) : Type 0 where
  pub known : (k : ℕ) → All (λ i. i < n) (strip_at strips k)
  pub rise : (k : ℕ) → AllPairs (λ i j. i < j) (strip_at strips k)
  pub filed : (i k : ℕ) → i < n → first_strip first shift (item_at items i).rect ≤ k → k ≤ last_strip first shift rule (item_at items i).rect → Contains (strip_at strips k) i

-- so does each item, and the first strip has each item's lowest row or one below it
pub record AreFiled (items : List Item) (first : ℤ) (shift rule : ℕ) (strips : List (List ℕ)) : Type 0 where
  pub filed : AreFiledTo items (length items) first shift rule strips
  pub within : All (λ (item : Item). last_strip first shift rule item.rect < length strips) items
