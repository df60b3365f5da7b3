-- Tiles of a layer: the cells of a grid that have a square of it. The grid's corner is the same for every layer.
use Rattle.std.specs.Prelude.{◌≡◌, ◌≢◌, ◌⊎◌, ℕ, ◌+◌, ◌*◌, ◌^◌, ◌<◌, ℤ, pos, negsuc, ◌+ℤ◌, ◌-ℤ◌, List, [], ◌∷◌, length}
use Rattle.std.specs.List.{All, AllPairs}
use Rattle.dpl_spec_split.specs.declared.Pt.{Pt}
use Rattle.dpl_spec_split.specs.declared.Rect.{Rect}
use Rattle.dpl_spec_split.specs.Squares.{Region, Has}
use Rattle.dpl_spec_split.specs.Slabs.{AreSlabsOf}
use Rattle.dpl_tile.specs.declared.grid.Grid.{Grid}
use Rattle.dpl_tile.specs.Tiles.{IsCoarse, cell_at}

-- the first column, and the first row, that a layer may have
abbrev pub corner : ℤ
corner = negsuc 999999999

-- the grid from there on, of cells with sides of so many squares
abbrev pub grid : ℕ → Grid
grid side = record { x = corner; y = corner; side = side }

-- a cell of that grid
abbrev pub IsCell : ℕ → Rect → Type 0
IsCell side cell = (place : ℕ × ℕ) × (cell ≡ cell_at (grid side) place)

-- the squares of a set, and the first square that a layer may have
abbrev pub with_corner : Region → Region
with_corner a p = a p ⊎ ((p.x ≡ corner) × (p.y ≡ corner))

-- The side of the cells over a layer: the side that was asked for, doubled until there are few pairs enough of a slab and a cell that it meets, or
-- the first cell has all squares. The first square that a layer may have counts as one of the layer's.
pub record IsSide (layer : Region) (tile side : ℕ) : Type 0 where
  pub slabs : List Rect
  pub slabs_of : AreSlabsOf (with_corner layer) slabs
  pub doublings : ℕ
  pub doubled : side ≡ tile * 2 ^ doublings
  pub coarse : IsCoarse (slabs ∷ []) (grid side)
  pub least : (k : ℕ) → k < doublings → IsCoarse (slabs ∷ []) (grid (tile * 2 ^ k)) → ⊥

-- some square of the set is in the rectangle
abbrev pub IsOccupied : Region → Rect → Type 0
IsOccupied a r = (p : Pt) × a p × Has r p

-- a cell with a square of the layer
abbrev pub IsTile : ℕ → Region → Rect → Type 0
IsTile side layer cell = IsCell side cell × IsOccupied layer cell

-- a cell with so many columns and rows more on each side
abbrev pub window : ℕ → Rect → Rect
window rule cell = record { x0 = cell.x0 -ℤ pos rule; y0 = cell.y0 -ℤ pos rule; x1 = cell.x1 +ℤ pos rule; y1 = cell.y1 +ℤ pos rule }

-- a step is one tile of the kind, another one each time
pub record TookFew (Kind : Rect → Type 0) (from to : ℕ) : Type 0 where
  pub tiles : List Rect
  pub kind : All Kind tiles
  pub different : AllPairs ◌≢◌ tiles
  pub each : to ≡ from + length tiles
