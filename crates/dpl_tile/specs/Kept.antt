-- What a plan keeps.
use Rattle.std.specs.Prelude.{◌≡◌, ◌↔◌, ℕ, ◌+◌, ◌*◌, ◌^◌, ◌<◌, ◌≤◌, ◌≤ℤ◌, ◌-ℤ◌, pos, unsigned_abs, List, length, map}
use Rattle.std.specs.List.{All, AllPairs, Contains}
use Rattle.dpl_spec_split.specs.declared.Rect.{Rect}
use Rattle.dpl_spec_split.specs.Loops.{farthest}
use Rattle.dpl_spec_split.specs.Graphs.{Precedes}
use Rattle.dpl_spec_split.specs.Squares.{IsSolidWithin}
use Rattle.dpl_tile.specs.declared.grid.Grid.{Grid}
use Rattle.dpl_tile.specs.declared.grid.Block.{Block}
use Rattle.dpl_tile.specs.Tiles.{AreTiles, cell_at, number_in, pairs_of}

-- a grid over a layer
pub record IsSound (g : Grid) : Type 0 where
  pub left : unsigned_abs g.x ≤ farthest
  pub low : unsigned_abs g.y ≤ farthest
  pub some : 1 ≤ g.side
  pub short : g.side ≤ 2 ^ 32

-- a rectangle of a layer right of and above the grid's corner
pub record IsOver (g : Grid) (r : Rect) : Type 0 where
  pub solid : IsSolidWithin farthest r
  pub right : g.x ≤ℤ r.x0
  pub up : g.y ≤ℤ r.y0

abbrev pub AreOver : Grid → List Rect → Type 0
AreOver g rects = (r : Rect) → Contains rects r → IsOver g r

-- the rows and columns of the cells that a rectangle meets
pub record IsBlockOf (g : Grid) (r : Rect) (b : Block) : Type 0 where
  pub row0 : b.row0 ≡ number_in g.side g.y r.y0
  pub row1 : b.row1 ≡ number_in g.side g.y (r.y1 -ℤ pos 1) + 1
  pub column0 : b.column0 ≡ number_in g.side g.x r.x0
  pub column1 : b.column1 ≡ number_in g.side g.x (r.x1 -ℤ pos 1) + 1

-- a block with some row and some column, and few of them
pub record IsSomeBlock (b : Block) : Type 0 where
  pub rows : b.row0 < b.row1
  pub columns : b.column0 < b.column1
  pub low : b.row1 ≤ 2000000001
  pub left : b.column1 ≤ 2000000001

-- a block of one cell
abbrev pub HasOneCell : Block → Type 0
HasOneCell b = (b.row1 ≡ b.row0 + 1) × (b.column1 ≡ b.column0 + 1)

abbrev pub IsInRow : ℕ → Block → ℕ × ℕ → Type 0
IsInRow row b e = (e.0 ≡ row) × (b.column0 ≤ e.1) × (e.1 < b.column1)

abbrev pub IsInBlock : Block → ℕ × ℕ → Type 0
IsInBlock b e = (b.row0 ≤ e.0) × (e.0 < b.row1) × (b.column0 ≤ e.1) × (e.1 < b.column1)

-- the place of a cell that the rectangle meets
pub record IsMet (g : Grid) (r : Rect) (e : ℕ × ℕ) : Type 0 where
  pub from_row : number_in g.side g.y r.y0 ≤ e.0
  pub to_row : e.0 ≤ number_in g.side g.y (r.y1 -ℤ pos 1)
  pub from_column : number_in g.side g.x r.x0 ≤ e.1
  pub to_column : e.1 ≤ number_in g.side g.x (r.x1 -ℤ pos 1)

abbrev pub IsMetByAny : Grid → List Rect → ℕ × ℕ → Type 0
IsMetByAny g rects e = (r : Rect) × Contains rects r × IsMet g r e

abbrev pub IsMetByPart : Grid → List (List Rect) → ℕ × ℕ → Type 0
IsMetByPart g parts e = (part : List Rect) × Contains parts part × IsMetByAny g part e

-- the places of the cells that slabs of the parts meet, in order, each once
pub record ArePlaces (g : Grid) (parts : List (List Rect)) (places : List (ℕ × ℕ)) : Type 0 where
  pub ordered : AllPairs Precedes places
  pub exactly : (e : ℕ × ℕ) → Contains places e ↔ IsMetByPart g parts e
  pub few : length places ≤ pairs_of g parts

-- a cell that isn't far from the grid's corner
pub record IsClose (g : Grid) (e : ℕ × ℕ) : Type 0 where
  pub up : e.0 * g.side ≤ 2 ^ 32
  pub across : e.1 * g.side ≤ 2 ^ 32

-- a grid and the places of the tiles
pub record AreLaid (parts : List (List Rect)) (tile : ℕ) (g : Grid) (places : List (ℕ × ℕ)) : Type 0 where
  pub sound : IsSound g
  pub few : length places < 2 ^ 32
  pub close : All (IsClose g) places
  pub over : All (AreOver g) parts
  pub tiles : AreTiles parts tile (map (cell_at g) places)
