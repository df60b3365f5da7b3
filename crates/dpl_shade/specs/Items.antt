-- Rectangles to be joined, by owner.
use Rattle.std.specs.Prelude.{◌≡◌, ℕ, ◌<◌, ◌≤◌, not, cond, ◌==◌, List, [], ◌∷◌, length, slice_index_or}
use Rattle.std.specs.List.{AllPairs, Contains}
use Rattle.dpl_spec_split.specs.declared.Rect.{Rect}
use Rattle.dpl_spec_split.specs.Loops.{farthest}
use Rattle.dpl_spec_split.specs.Slabs.{Follows}
use Rattle.dpl_spec_split.specs.Squares.{IsSolidWithin}
use Rattle.dpl_join.specs.declared.items.Item.{Item}

-- one of the items is the owner's rectangle
abbrev pub IsOwned : List Item → Rect → ℕ → Type 0
IsOwned items r k = (item : Item) × Contains items item × (item.rect ≡ r) × (item.owner ≡ k)

abbrev pub OwnersRise : List Item → Type 0
OwnersRise items = (i j : ℕ) (d : Item) → i ≤ j → j < length items → (slice_index_or items i d).owner ≤ (slice_index_or items j d).owner

-- of two rectangles of one owner the later one follows the earlier one, as in a canonical list
abbrev pub AreInOrder : List Item → Type 0
AreInOrder items = AllPairs (λ (a b : Item). a.owner ≡ b.owner → Follows a.rect b.rect) items

-- the items are solid rectangles in the range of a layer
abbrev pub AreOwnedWithin : List Item → Type 0
AreOwnedWithin items = (r : Rect) (k : ℕ) → IsOwned items r k → IsSolidWithin farthest r

-- the rectangles of other owners than own
abbrev pub others_in : List Item → ℕ → List Rect
others_in [] own = []
others_in (item ∷ items) own = cond (not (item.owner == own)) (item.rect ∷ others_in items own) (others_in items own)

-- the rectangles of the owner
abbrev pub own_in : List Item → ℕ → List Rect
own_in [] own = []
own_in (item ∷ items) own = cond (item.owner == own) (item.rect ∷ own_in items own) (own_in items own)
