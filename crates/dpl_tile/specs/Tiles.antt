-- Tiles: the cells of a grid that have a square of some part.
use Rattle.std.specs.Prelude.{◌≡◌, ◌⊎◌, ◌↔◌, ℕ, ◌+◌, ◌-◌, ◌*◌, ◌/◌, ◌^◌, ◌<◌, ◌≤◌, ℤ, pos, ◌+ℤ◌, ◌-ℤ◌, ◌≤ℤ◌, unsigned_abs, List, [], sum_by}
use Rattle.std.specs.List.{AllPairs, Contains}
use Rattle.dpl_spec_split.specs.declared.Pt.{Pt}
use Rattle.dpl_spec_split.specs.declared.Rect.{Rect}
use Rattle.dpl_spec_split.specs.Squares.{Region, Has}
use Rattle.dpl_spec_split.specs.Slabs.{Before}
use Rattle.dpl_slabs.specs.Parts.{union_of}
use Rattle.dpl_tile.specs.declared.grid.Grid.{Grid}

-- a rectangle within another
pub record LiesIn (inner outer : Rect) : Type 0 where
  pub left : outer.x0 ≤ℤ inner.x0
  pub right : inner.x1 ≤ℤ outer.x1
  pub low : outer.y0 ≤ℤ inner.y0
  pub high : inner.y1 ≤ℤ outer.y1

-- the least rectangle that has all squares of the set
pub record IsBounds (a : Region) (b : Rect) : Type 0 where
  pub inside : (p : Pt) → a p → Has b p
  pub left : (p : Pt) × a p × (p.x ≡ b.x0)
  pub right : (p : Pt) × a p × (p.x +ℤ pos 1 ≡ b.x1)
  pub low : (p : Pt) × a p × (p.y ≡ b.y0)
  pub high : (p : Pt) × a p × (p.y +ℤ pos 1 ≡ b.y1)

-- the cell so many rows and so many columns from the grid's corner
abbrev pub cell_at : Grid → ℕ × ℕ → Rect
cell_at g e = record { x0 = g.x +ℤ pos (e.1 * g.side); y0 = g.y +ℤ pos (e.0 * g.side); x1 = g.x +ℤ pos (e.1 * g.side + g.side); y1 = g.y +ℤ pos (e.0 * g.side + g.side) }

-- which row or column of cells a row or column of squares is in, where the cells begin at low
abbrev pub number_in : ℕ → ℤ → ℤ → ℕ
number_in side low i = unsigned_abs (i -ℤ low) / side

-- how many rows or columns of cells the squares from a up to but not b are in
abbrev pub numbers_in : ℕ → ℤ → ℤ → ℤ → ℕ
numbers_in side low a b = number_in side low (b -ℤ pos 1) - number_in side low a + 1

-- how many cells a rectangle meets
abbrev pub cells_met : Grid → Rect → ℕ
cells_met g r = numbers_in g.side g.y r.y0 r.y1 * numbers_in g.side g.x r.x0 r.x1

-- the pairs of a slab of a part and a cell that it meets
abbrev pub pairs_of : Grid → List (List Rect) → ℕ
pairs_of g parts = sum_by (λ part. sum_by (cells_met g) part) parts

abbrev pub most_pairs : ℕ
most_pairs = 16777216

-- there are few pairs enough, or the first cell has all squares
abbrev pub IsCoarse : List (List Rect) → Grid → Type 0
IsCoarse parts g = (pairs_of g parts ≤ most_pairs) ⊎ ((p : Pt) → union_of parts p → Has (cell_at g (0, 0)) p)

-- the side, doubled some number of times
abbrev pub IsDoubled : ℕ → ℕ → Type 0
IsDoubled tile side = (n : ℕ) × (side ≡ tile * 2 ^ n)

-- the grid from the least column and the least row on, its side as asked, doubled until it is coarse
pub record IsGrid (parts : List (List Rect)) (tile : ℕ) (g : Grid) : Type 0 where
  pub bounds : Rect
  pub bounded : IsBounds (union_of parts) bounds
  pub left : g.x ≡ bounds.x0
  pub low : g.y ≡ bounds.y0
  pub doublings : ℕ
  pub side : g.side ≡ tile * 2 ^ doublings
  pub coarse : IsCoarse parts g
  pub least : (k : ℕ) → k < doublings → IsCoarse parts (record { x = g.x; y = g.y; side = tile * 2 ^ k }) → ⊥

-- some square of the parts is in the rectangle
abbrev pub IsOccupied : List (List Rect) → Rect → Type 0
IsOccupied parts r = (p : Pt) × union_of parts p × Has r p

-- the cells with some square of the parts, by row, then by column, each once
pub record AreCells (parts : List (List Rect)) (g : Grid) (cells : List Rect) : Type 0 where
  pub ordered : AllPairs Before cells
  pub exactly : (r : Rect) → Contains cells r ↔ (((e : ℕ × ℕ) × (r ≡ cell_at g e)) × IsOccupied parts r)

-- the tiles of parts for a side that was asked for: none where no part has a square
abbrev pub AreTiles : List (List Rect) → ℕ → List Rect → Type 0
AreTiles parts tile cells = ((cells ≡ []) × ((p : Pt) → union_of parts p → ⊥)) ⊎ ((g : Grid) × IsGrid parts tile g × AreCells parts g cells)
