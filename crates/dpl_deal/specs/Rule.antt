-- The rule of a deque that is dealt once. The same rule holds of each deque of a deal.
use Rattle.std.specs.Prelude.{◌≡◌, ◌+◌, ◌-◌, ◌<◌, ◌≤◌, ◌==◌, ℕ, suc, Bool, true, false, ◌||◌, List, [], ◌∷◌, ◌++◌, if◌then◌else◌, nat_lt}
use mathlib.Core.Option.{some}
use lib.ListN.{get_elem?}
use Rattle.dpl_deal.specs.declared.view.PassView.{PassView}
use Rattle.dpl_deal.specs.declared.view.DequeItem.{DequeItem}
use Rattle.dpl_deal.specs.declared.view.DequeItem.TheVariants.{Tile, End}

abbrev pub tiles_in : List DequeItem → List ℕ
tiles_in [] = []
tiles_in (Tile t ∷ xs) = t ∷ tiles_in xs
tiles_in (End ∷ xs) = tiles_in xs

-- how many end marks there are
abbrev pub marks_in : List DequeItem → ℕ
marks_in [] = 0
marks_in (Tile t ∷ xs) = marks_in xs
marks_in (End ∷ xs) = suc (marks_in xs)

abbrev pub has_end : List DequeItem → Bool
has_end [] = false
has_end (Tile t ∷ xs) = has_end xs
has_end (End ∷ xs) = true

-- behind an end mark there is no tile
abbrev pub IsSealedRow : List DequeItem → Type 0
IsSealedRow [] = Unit {0}
IsSealedRow (Tile t ∷ xs) = IsSealedRow xs
IsSealedRow (End ∷ xs) = tiles_in xs ≡ []

-- how often x stands in the list
abbrev pub times : ℕ → List ℕ → ℕ
times x [] = 0
times x (y ∷ ys) = (if y == x then 1 else 0) + times x ys

-- the tiles are below n
abbrev pub AreBelow : ℕ → List DequeItem → Type 0
AreBelow n items = (x : ℕ) → n ≤ x → times x (tiles_in items) ≡ 0

-- how often x stands in the list of the numbers below n
abbrev pub once_below : ℕ → ℕ → ℕ
once_below n x = if nat_lt x n then 1 else 0

-- the view of who deals
abbrev pub dealer : PassView
dealer = record { parts = 1024; due = 0; limit = 0; dealt = []; took = []; ended = false }

-- the view of who has no part: a pass that is spent
abbrev pub bystander : PassView
bystander = record { parts = 0; due = 0; limit = 0; dealt = []; took = []; ended = false }

abbrev pub after_deal : PassView → ℕ → PassView
after_deal v t = record v { dealt = v.dealt ++ t ∷ []; limit = suc t }

abbrev pub after_seal : PassView → PassView
after_seal v = record v { due = suc v.due }

abbrev pub after_takes : PassView → List DequeItem → PassView
after_takes v xs = record v { took = v.took ++ tiles_in xs; ended = v.ended || has_end xs; due = v.due - marks_in xs }

-- a pass that is cut off has one part, and one mark that is due to it
abbrev pub cut_off : PassView → PassView
cut_off v = record { parts = 1; due = 1; limit = v.limit; dealt = []; took = []; ended = false }

abbrev pub after_cut : PassView → PassView
after_cut v = record v { parts = v.parts - 1; due = v.due - 1 }

-- a mark is laid, and a pass is cut off
abbrev pub after_grip : PassView → PassView
after_grip v = after_cut (after_seal v)

abbrev pub after_join : PassView → PassView → PassView
after_join v w = record { parts = v.parts + w.parts; due = v.due + w.due; limit = v.limit; dealt = v.dealt ++ w.dealt; took = v.took ++ w.took; ended = v.ended || w.ended }

abbrev pub total : (PassView → ℕ) → List PassView → ℕ
total f [] = 0
total f (v ∷ vs) = f v + total f vs

-- Each tile that was dealt lies in the deque or was taken, as often as it was dealt. As many marks lie there as are due.
-- Where a pass has noted the end, no tile lies there.
pub record IsKept (items : List DequeItem) (views : List PassView) : Type 0 where
  pub parts : total (λ v. v.parts) views ≡ 1024
  pub idle : (port : ℕ) (v : PassView) → get_elem? views port ≡ some v → v.parts ≡ 0 → v ≡ bystander
  pub each : (x : ℕ) → total (λ v. times x v.dealt) views ≡ total (λ v. times x v.took) views + times x (tiles_in items)
  pub below : (port : ℕ) (v : PassView) → get_elem? views port ≡ some v → 0 < v.parts → AreBelow v.limit items
  pub marks : total (λ v. v.due) views ≡ marks_in items
  pub row : IsSealedRow items
  pub ended : (port : ℕ) (v : PassView) → get_elem? views port ≡ some v → v.ended ≡ true → tiles_in items ≡ []
