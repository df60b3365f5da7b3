-- The pieces of a sweep from the lowest row up: canonical slabs, at any time.
use Rattle.std.specs.Prelude.{◌≡◌, ℕ, ◌<◌, ◌⊎◌, ◌↔◌, ℤ, pos, ◌≤ℤ◌, ◌<ℤ◌, List, [], ◌∷◌, ◌++◌, length, slice_index, slice_index_or, slice_set}
use Rattle.std.specs.List.{Contains}
use Rattle.dpl_spec_split.specs.declared.Pt.{Pt}
use Rattle.dpl_spec_split.specs.declared.Rect.{Rect}
use Rattle.dpl_spec_split.specs.Squares.{Has, Covers}
use Rattle.dpl_spec_split.specs.Slabs.{IsCanonical}
use Rattle.dpl_upward.specs.declared.upward.Front.{Front}
use Rattle.dpl_order.specs.Joins.{taller}
use Rattle.dpl_order.specs.Pieces.{Continues}

abbrev pub piece_at : List Rect → ℕ → Rect
piece_at pieces n = slice_index_or pieces n (record { x0 = pos 0; y0 = pos 0; x1 = pos 0; y1 = pos 0 })

-- the numbers of pieces that reach the row, by left column, and of all that end at it
pub record AreListed (row : ℤ) (pieces : List Rect) (numbers : List ℕ) : Type 0 where
  pub within : (i : ℕ) → i < length numbers → slice_index numbers i < length pieces
  pub reach : (i : ℕ) → i < length numbers → row ≤ℤ (piece_at pieces (slice_index numbers i)).y1
  pub rise : (i j : ℕ) → i < j → j < length numbers → (piece_at pieces (slice_index numbers i)).x0 <ℤ (piece_at pieces (slice_index numbers j)).x0
  pub all : (n : ℕ) → n < length pieces → (piece_at pieces n).y1 ≡ row → Contains numbers n

-- canonical slabs up to the row, with the numbers of those that end at it
pub record AreUpTo (row : ℤ) (pieces : List Rect) (numbers : List ℕ) : Type 0 where
  pub canonical : IsCanonical pieces
  pub ends : (n : ℕ) → n < length pieces → (piece_at pieces n).y1 ≤ℤ row
  pub listed : AreListed row pieces numbers

-- the first of the numbered pieces begin left of column x
abbrev pub ArePassedBy : ℤ → List Rect → List ℕ → ℕ → Type 0
ArePassedBy x pieces numbers count = (i : ℕ) → i < count → i < length numbers → (piece_at pieces (slice_index numbers i)).x0 <ℤ x

-- canonical slabs of the rows below low and of the band up to but not high, there left of column x; of those below, the first few begin left of it too
pub record IsFrontOf (low high x : ℤ) (pieces : List Rect) (lower : List ℕ) (count : ℕ) (upper : List ℕ) : Type 0 where
  pub here : AreUpTo high pieces upper
  pub below : AreListed low pieces lower
  pub first : (n : ℕ) → n < length pieces → (piece_at pieces n).y0 ≤ℤ low
  pub left : (n : ℕ) → n < length pieces → low <ℤ (piece_at pieces n).y1 → (piece_at pieces n).x1 <ℤ x
  pub passed : ArePassedBy x pieces lower count

abbrev pub IsFront : ℤ → ℤ → ℤ → Front → Type 0
IsFront low high x front = IsFrontOf low high x front.pieces.items front.below.items front.passed front.here.items

-- no numbered piece but that of number n begins in column x
abbrev pub IsSought : ℤ → List Rect → List ℕ → ℕ → Type 0
IsSought x pieces numbers n = (i : ℕ) → i < length numbers → (piece_at pieces (slice_index numbers i)).x0 ≡ x → slice_index numbers i ≡ n

-- the squares of the rectangle were added
pub record Adds (r : Rect) (old new : List Rect) : Type 0 where
  pub covers : (p : Pt) → Covers new p ↔ (Covers old p ⊎ Has r p)

-- the piece of number n, which the bar stands on with the same columns, grew over it
pub record Grows (bar : Rect) (n : ℕ) (old new : List Rect) : Type 0 where
  pub within : n < length old
  pub on : Continues (piece_at old n) bar
  pub grown : new ≡ slice_set old n (taller (piece_at old n) bar.y1)

-- the bar is a new piece of number n, as it doesn't stand with the same columns on the one that was sought
pub record IsAdded (bar : Rect) (sought n : ℕ) (old new : List Rect) : Type 0 where
  pub off : sought < length old → Continues (piece_at old sought) bar → ⊥
  pub last : n ≡ length old
  pub added : new ≡ old ++ bar ∷ []

abbrev pub IsPutAt : Rect → ℕ → ℕ → List Rect → List Rect → Type 0
IsPutAt bar sought n old new = ((n ≡ sought) × Grows bar n old new) ⊎ IsAdded bar sought n old new
