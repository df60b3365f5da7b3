-- What items shade of one another.
use Rattle.std.specs.Prelude.{◌≡◌, ◌≢◌, ℕ, ◌+◌, ◌%◌, ◌<◌, ◌≤◌, ◌⊎◌, ◌↔◌, ℤ, pos, ◌+ℤ◌, ◌≤ℤ◌, ◌<ℤ◌, Bool, true, false, List, length, slice_index_or}
use Rattle.std.specs.List.{Contains}
use Rattle.dpl_spec_split.specs.declared.Spacing.{Spacing}
use Rattle.dpl_spec_split.specs.declared.Rect.{Rect}
use Rattle.dpl_join.specs.declared.items.Item.{Item}
use Rattle.dpl_join.specs.Joins.{Joined, home_of}
use Rattle.dpl_join.specs.Pairs.{IsPair, item_at}
use Rattle.dpl_shade.specs.declared.rows.Span.{Span}
use Rattle.dpl_shade.specs.declared.shades.Shade.{Shade}
use Rattle.dpl_shade.specs.declared.shades.Shades.{Shades}
use Rattle.dpl_shade.specs.declared.shades.Portion.{Portion}
use Rattle.dpl_shade.specs.Rows.{InRows, IsLit, IsShaded}

-- item m, which is another owner's, shades row y of item n
pub record IsShadedBy (spacing : Spacing) (items : List Item) (n m : ℕ) (y : ℤ) : Type 0 where
  pub known : m < length items
  pub apart : (item_at items m).owner ≢ (item_at items n).owner
  pub shaded : IsShaded spacing (item_at items n).rect (item_at items m).rect y

-- some item does
abbrev pub IsDarkRow : Spacing → List Item → ℕ → ℤ → Type 0
IsDarkRow spacing items n y = (m : ℕ) × IsShadedBy spacing items n m y

abbrev pub IsRowOf : Rect → ℤ → Type 0
IsRowOf r y = (r.y0 ≤ℤ y) × (y <ℤ r.y1)

-- the item has a shade with the row
abbrev pub HasShade : List Shade → ℕ → ℤ → Type 0
HasShade found n y = (s : Shade) × Contains found s × (s.number ≡ n) × InRows s.span y

-- the item's rows that aren't dark are nowhere enough for a zone
abbrev pub IsBarren : Spacing → ℕ → List Item → ℕ → Type 0
IsBarren spacing overlap items n =
    (g : Span) → IsLit (item_at items n).rect.y0 (item_at items n).rect.y1 (IsDarkRow spacing items n) g → g.to <ℤ (g.from +ℤ pos (overlap + 2))

-- the item has too few rows for a zone
abbrev pub IsShort : ℕ → List Item → ℕ → Type 0
IsShort overlap items n = (item_at items n).rect.y1 <ℤ ((item_at items n).rect.y0 +ℤ pos (overlap + 2))

-- the item isn't looked at any more
abbrev pub IsDead : Shades → ℕ → Type 0
IsDead t n = slice_index_or t.dead.items n false ≡ true

-- some rows, and all of them dark
pub record IsShadeOf (spacing : Spacing) (items : List Item) (s : Shade) : Type 0 where
  pub tall : s.span.from <ℤ s.span.to
  pub rows : (y : ℤ) → InRows s.span y → IsDarkRow spacing items s.number y

-- the shades are dark, and no dead item has a zone
pub record AreSound (items : List Item) (spacing : Spacing) (overlap : ℕ) (found : List Shade) (flags : List Bool) : Type 0 where
  pub sized : length flags ≡ length items
  pub shades : (s : Shade) → Contains found s → IsShadeOf spacing items s
  pub dead : (n : ℕ) → n < length items → slice_index_or flags n false ≡ true → IsBarren spacing overlap items n

abbrev pub IsSound : List Item → Shades → Type 0
IsSound items t = AreSound items t.spacing t.overlap t.found.items t.dead.items

-- item n is dead, or has each of its rows that item m shades in a shade
abbrev pub Handles : List Item → Shades → ℕ → ℕ → Type 0
Handles items t n m =
    IsDead t n ⊎ ((y : ℤ) → IsRowOf (item_at items n).rect y → IsShaded t.spacing (item_at items n).rect (item_at items m).rect y → HasShade t.found.items n y)

-- what all items of other owners shade of item n is handled
abbrev pub HandlesAll : List Item → Shades → ℕ → Type 0
HandlesAll items t n = (m : ℕ) → m < length items → (item_at items m).owner ≢ (item_at items n).owner → Handles items t n m

abbrev pub HandlesBoth : List Item → Shades → ℕ × ℕ → Type 0
HandlesBoth items t p = Handles items t p.0 p.1 × Handles items t p.1 p.0

-- what was found is kept
pub record IsMore (old new : Shades) : Type 0 where
  pub spacing : new.spacing ≡ old.spacing
  pub overlap : new.overlap ≡ old.overlap
  pub found : (s : Shade) → Contains old.found.items s → Contains new.found.items s
  pub dead : (n : ℕ) → IsDead old n → IsDead new n

-- the pairs that count in a strip dealt to this one of so many workers are handled
abbrev pub HandlesDealt : Joined → ℕ → ℕ → Shades → Type 0
HandlesDealt join worker workers t = (p : ℕ × ℕ) → IsPair join.rule join.items p → home_of join p % workers ≡ worker → HandlesBoth join.items t p

-- what this one of so many workers found
pub record IsShare (join : Joined) (known : Shades) (worker workers : ℕ) (t : Shades) : Type 0 where
  pub spacing : t.spacing ≡ known.spacing
  pub overlap : t.overlap ≡ known.overlap
  pub sound : IsSound join.items t
  pub handles : HandlesDealt join worker workers t

-- what was found in one place and in another, put together
pub record AreBoth (one other both : Shades) : Type 0 where
  pub spacing : both.spacing ≡ one.spacing
  pub overlap : both.overlap ≡ one.overlap
  pub found : (s : Shade) → Contains both.found.items s ↔ (Contains one.found.items s ⊎ Contains other.found.items s)
  pub sized : length both.dead.items ≡ length one.dead.items
  pub dead : (n : ℕ) → IsDead both n ↔ (IsDead one n ⊎ IsDead other n)

abbrev pub NumbersRise : List Shade → Type 0
NumbersRise found = (i j : ℕ) (d : Shade) → i ≤ j → j < length found → (slice_index_or found i d).number ≤ (slice_index_or found j d).number

-- the shades before a place have numbers below n, and no others do
pub record IsStart (found : List Shade) (n at : ℕ) : Type 0 where
  pub within : at ≤ length found
  pub under : (k : ℕ) (d : Shade) → k < at → k < length found → (slice_index_or found k d).number < n
  pub over : (k : ℕ) (d : Shade) → at ≤ k → k < length found → n ≤ (slice_index_or found k d).number

-- the shades of an item stand from a place up to but not another one, and no others do
pub record IsPortion (found : List Shade) (at : Portion) : Type 0 where
  pub start : IsStart found at.number at.start
  pub end : IsStart found (at.number + 1) at.end

-- the shades of an item are its dark rows, where it isn't dead
pub record AreShades (items : List Item) (t : Shades) : Type 0 where
  pub sound : IsSound items t
  pub rise : NumbersRise t.found.items
  pub rows : (n : ℕ) (y : ℤ) → n < length items → (IsDead t n → ⊥) → IsRowOf (item_at items n).rect y → IsDarkRow t.spacing items n y ↔ HasShade t.found.items n y
