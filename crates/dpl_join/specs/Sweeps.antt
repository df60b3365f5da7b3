-- A sweep over the items of one strip.
use Rattle.std.specs.Prelude.{◌≡◌, ◌≢◌, ℕ, ◌<◌, ◌≤◌, ◌⊎◌, nat_lt, if◌then◌else◌, pos, ◌≤ℤ◌, List, [], ◌∷◌, ◌++◌, length, slice_index_or}
use Rattle.std.specs.List.{AllPairs, Contains}
use Rattle.dpl_spec_split.specs.declared.Rect.{Rect}
use Rattle.dpl_join.specs.declared.items.Item.{Item}
use Rattle.dpl_join.specs.declared.sweep.Entry.{Entry}
use Rattle.dpl_join.specs.declared.sweep.Home.{Home}
use Rattle.dpl_join.specs.declared.sweep.Place.{Place}
use Rattle.dpl_join.specs.Pairs.{AreClose, item_at}
use Rattle.dpl_join.specs.Strips.{common_strip}

abbrev pub entry_of : List Item → ℕ → Entry
entry_of items n = record { rect = (item_at items n).rect; owner = (item_at items n).owner; number = n }

abbrev pub no_entry : Entry
no_entry = record { rect = record { x0 = pos 0; y0 = pos 0; x1 = pos 0; y1 = pos 0 }; owner = 0; number = 0 }

abbrev pub entry_at : List Entry → ℕ → Entry
entry_at entries k = slice_index_or entries k no_entry

abbrev pub LeftsRise : List Entry → Type 0
LeftsRise entries = (i j : ℕ) (d : Entry) → i ≤ j → j < length entries → (slice_index_or entries i d).rect.x0 ≤ℤ (slice_index_or entries j d).rect.x0

abbrev pub AreDifferent : List Entry → Type 0
AreDifferent entries = AllPairs (λ (e f : Entry). e.number ≢ f.number) entries

-- the two count in the strip
abbrev pub CountIn : Home → Rect → Rect → Type 0
CountIn home a b = common_strip home.ruling.first home.ruling.shift a b ≡ home.strip

-- a pair that counts in the strip
pub record IsMet (place : Place) (a b : Entry) : Type 0 where
  pub apart : a.owner ≢ b.owner
  pub close : AreClose place.rule a.rect b.rect
  pub here : CountIn place.home a.rect b.rect

abbrev pub ends : Entry → Entry → ℕ × ℕ
ends a b = (if nat_lt a.number b.number then (a.number, b.number) else (b.number, a.number))

abbrev pub AddsPair : Place → Entry → Entry → List (ℕ × ℕ) → List (ℕ × ℕ) → Type 0
AddsPair place a b old new = (IsMet place a b × (new ≡ old ++ ends a b ∷ [])) ⊎ ((IsMet place a b → ⊥) × (new ≡ old))

-- a pair of the entry at one place and one behind it, before the n-th
pub record IsMetWith (place : Place) (entries : List Entry) (at n : ℕ) (p : ℕ × ℕ) : Type 0 where
  pub other : ℕ
  pub behind : at < other
  pub before : other < n
  pub known : other < length entries
  pub met : IsMet place (entry_at entries at) (entry_at entries other)
  pub is : p ≡ ends (entry_at entries at) (entry_at entries other)

-- a pair of the entry at one of the first n places and one behind it
pub record IsMetBelow (place : Place) (entries : List Entry) (n : ℕ) (p : ℕ × ℕ) : Type 0 where
  pub one : ℕ
  pub below : one < n
  pub pair : IsMetWith place entries one (length entries) p

-- a pair of two of the items with these numbers
pub record IsMetAmong (place : Place) (items : List Item) (numbers : List ℕ) (p : ℕ × ℕ) : Type 0 where
  pub order : p.0 < p.1
  pub first : Contains numbers p.0
  pub second : Contains numbers p.1
  pub met : IsMet place (entry_of items p.0) (entry_of items p.1)
