-- Rectangles with owners.
use Rattle.std.specs.Prelude.{◌≡◌, ◌≢◌, ℕ, ◌<◌, ◌↔◌, List, length, slice_index, slice_index_or}
use Rattle.std.specs.List.{AllZip}
use Rattle.dpl_spec_split.specs.declared.Spacing.{Spacing}
use Rattle.dpl_spec_split.specs.declared.Pt.{Pt}
use Rattle.dpl_spec_split.specs.declared.Rect.{Rect}
use Rattle.dpl_spec_split.specs.Squares.{Region, Has, Near}
use Rattle.dpl_spec_split.specs.Zones.{at}
use Rattle.dpl_tree.specs.declared.items.Item.{Item}
use Rattle.dpl_tree.specs.declared.owners.Owners.TheVariants.{But, Only}
use Rattle.dpl_tree.specs.Trees.{HasItem}
use Rattle.dpl_nearest.specs.Search.{ItemCovers, unit_of}

abbrev pub corner : Rect → Pt
corner r = at r.x0 r.y0

-- each rectangle's corner is the owner's
abbrev pub AreOwners : List Item → List Rect → List ℕ → Type 0
AreOwners items rects owners = AllZip (λ r k. ItemCovers (Only k) items (corner r)) rects owners

-- rectangle number i, which has the square
abbrev pub IsAt : List Rect → ℕ → Pt → Type 0
IsAt rects i p = (r : Rect) × (i < length rects) × (slice_index_or rects i r ≡ r) × Has r p

-- one of the first n rectangles is the owner's
abbrev pub IsOwnedBelow : ℕ → List Rect → List ℕ → Rect → ℕ → Type 0
IsOwnedBelow n rects owners r k = (i : ℕ) × (i < n) × (i < length rects) × (slice_index_or rects i r ≡ r) × (slice_index owners i ≡ k)

-- the items are the rectangles, each with its owner
abbrev pub AreOwnedItems : List Rect → List ℕ → List Item → Type 0
AreOwnedItems rects owners items = (r : Rect) (k : ℕ) → HasItem items r k ↔ IsOwnedBelow (length rects) rects owners r k

-- the squares of the first n rectangles that are near another owner's item
abbrev pub foreign : Spacing → List Rect → List ℕ → List Item → ℕ → Region
foreign spacing rects owners items n p =
    (i : ℕ) × (i < n) × IsAt rects i p × ((q : Pt) × ItemCovers (But (slice_index owners i)) items q × (Near spacing p q))

-- squares of rectangles of two owners that are near
abbrev pub AreForeign : Spacing → List Rect → List ℕ → Pt → Pt → Type 0
AreForeign spacing rects owners p q =
    (i j : ℕ) × IsAt rects i p × IsAt rects j q × (slice_index owners i ≢ slice_index owners j) × (Near spacing p q)

-- a square has one owner
abbrev pub IsOwnedOnce : List Rect → List ℕ → Type 0
IsOwnedOnce rects owners = (i j : ℕ) (p : Pt) → IsAt rects i p → IsAt rects j p → slice_index owners i ≡ slice_index owners j

-- the one item is the square's, with this owner
abbrev pub IsSingle : Pt → ℕ → List Item → Type 0
IsSingle p owner items = (r : Rect) (k : ℕ) → HasItem items r k ↔ ((k ≡ owner) × (unit_of p ≡ r))
