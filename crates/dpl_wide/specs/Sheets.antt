-- The edges of touching slabs, tile by tile, as lists.
use Rattle.std.specs.Prelude.{◌≡◌, ℕ, ◌^◌, ◌<◌, Bool, ◌&&◌, ◌||◌, ◌⊎◌, if◌then◌else◌, int_le, int_lt, List, [], ◌∷◌, length, map}
use Rattle.std.specs.Int.{int_min, int_max}
use Rattle.std.specs.List.{Contains, flat_map, range_with_len}
use Rattle.dpl_spec_split.specs.declared.Rect.{Rect}
use Rattle.dpl_spec_split.specs.Squares.{uniform}
use Rattle.dpl_spec_split.specs.Slabs.{IsCanonical}
use Rattle.dpl_tree.specs.declared.items.Item.{Item}
use Rattle.dpl_tree.specs.Trees.{AreItemsOf, LiesApart}
use Rattle.dpl_tile.specs.Plans.{Planned}
use Rattle.dpl_board.specs.Sheets.{Sheet}
use Rattle.dpl_wide.specs.Touching.{alone, crossed, slab_at}

-- what of a slab is in a cell
abbrev pub clipped : Rect → Rect → Rect
clipped cell r = record { x0 = int_max r.x0 cell.x0; y0 = int_max r.y0 cell.y0; x1 = int_min r.x1 cell.x1; y1 = int_min r.y1 cell.y1 }

-- whether a rectangle has some square
abbrev pub has_square : Rect → Bool
has_square r = int_lt r.x0 r.x1 && int_lt r.y0 r.y1

-- whether neither a column nor a row lies between two rectangles
abbrev pub lie_close : Rect → Rect → Bool
lie_close r s = (int_le r.x0 s.x1 && int_le s.x0 r.x1) && (int_le r.y0 s.y1 && int_le s.y0 r.y1)

-- whether a square of r in the cell touches one of s
abbrev pub touches_from : Rect → Rect → Rect → Bool
touches_from cell r s = has_square (clipped cell r) && lie_close (clipped cell r) s

-- whether two slabs touch by a square of one of them in the cell
abbrev pub touch_in : Rect → Rect → Rect → Bool
touch_in cell r s = touches_from cell r s || touches_from cell s r

-- the numbers below n
abbrev pub below : ℕ → List ℕ
below n = range_with_len 0 n

-- the edge of slabs i and j, if they touch by a square in the cell
abbrev pub edge_in : List Rect → Rect → ℕ → ℕ → List (ℕ × ℕ)
edge_in slabs cell i j = if touch_in cell (slab_at slabs i) (slab_at slabs j) then crossed i j ∷ [] else []

-- the edges of the slabs that touch by a square in the cell
abbrev pub edges_in : List Rect → Rect → List (ℕ × ℕ)
edges_in slabs cell = flat_map (λ (i : ℕ). flat_map (edge_in slabs cell i) (below (length slabs))) (below (length slabs))

-- the slabs of a layer, and the cells of tiles over it
pub record SlabTiles : Type 0 where
  pub slabs : List Rect
  pub cells : List Rect

-- for each tile its edges
abbrev pub sheet_of : SlabTiles → Sheet
sheet_of tiles = map (edges_in tiles.slabs) tiles.cells

-- a plan of single slabs, each of which owns itself, where near is touching, and a tree over the same slabs
pub record IsSlabPlan (slabs : List Rect) (plan : Planned) (items : List Item) : Type 0 where
  pub canonical : IsCanonical slabs
  pub few : length slabs < 2 ^ 32
  pub parts : plan.parts ≡ alone slabs
  pub owners : plan.owners ≡ below (length slabs)
  pub spacing : plan.spacing ≡ uniform 1
  pub listed : AreItemsOf (alone slabs) items

-- the edge of an item that has a square in the cell, and itself
abbrev pub IsOwnEdge : Rect → Item → ℕ × ℕ → Type 0
IsOwnEdge cell item e = (¬ LiesApart cell item.rect) × (e ≡ crossed item.owner item.owner)

-- one of the two edges of a pair of slabs
abbrev pub IsPairEdge : ℕ × ℕ → ℕ × ℕ → Type 0
IsPairEdge pair e = (e ≡ crossed pair.0 pair.1) ⊎ (e ≡ crossed pair.1 pair.0)

-- an edge of some item, or of some pair
abbrev pub IsOwnEdgeOf : Rect → List Item → ℕ × ℕ → Type 0
IsOwnEdgeOf cell items e = (item : Item) × Contains items item × IsOwnEdge cell item e

abbrev pub IsPairEdgeOf : List (ℕ × ℕ) → ℕ × ℕ → Type 0
IsPairEdgeOf pairs e = (pair : ℕ × ℕ) × Contains pairs pair × IsPairEdge pair e
