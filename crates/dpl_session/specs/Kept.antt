-- What a session keeps.
use Rattle.std.specs.Prelude.{◌≡◌, ◌≢◌, ℕ, ◌<◌, ◌≤◌, ◌⊎◌, pos, ◌+ℤ◌, ◌≤ℤ◌, ◌<ℤ◌, List, [], ◌∷◌, ◌++◌, length, slice_index, slice_index_or, None}
use Rattle.std.specs.List.{All, AllPairs, Contains}
use Rattle.dpl_spec_split.specs.declared.Pt.{Pt}
use Rattle.dpl_spec_split.specs.declared.Rect.{Rect}
use Rattle.dpl_spec_split.specs.declared.Spacing.{Spacing}
use Rattle.dpl_spec_split.specs.Squares.{Region, Covers, Has, Near}
use Rattle.dpl_spec_split.specs.Slabs.{Before, IsSolid}
use Rattle.dpl_spec_split.specs.Zones.{part_at}
use Rattle.dpl_spec_split.specs.Graphs.{AreEdges}
use Rattle.dpl_spec_split.specs.Pieces.{Conflict}
use Rattle.dpl_spec_split.specs.Decomposition.{Cut, IsCut}
use Rattle.dpl_slabs.specs.Parts.{union_of}
use Rattle.dpl_piece.specs.Cutting.{CutPieces}
use Rattle.dpl_piece.specs.View.{cut_view}
use Rattle.dpl_session.specs.declared.tile.Tile.{Tile}
use Rattle.dpl_session.specs.declared.verdict.Verdict.{Verdict}
use Rattle.dpl_session.specs.declared.window.Window.{Window}
use Rattle.dpl_session.specs.Answered.{Decides}
use Rattle.dpl_session.specs.Tiles.{IsCell, IsOccupied, IsTile, corner, window}
use Rattle.dpl_session.specs.Windows.{IsWindowOf, each_alone}

-- a cell that no layer is far from
pub record IsClose (c : Rect) : Type 0 where
  pub left : corner ≤ℤ c.x0
  pub low : corner ≤ℤ c.y0
  pub across : c.x0 <ℤ pos 1000000000
  pub up : c.y0 <ℤ pos 1000000000
  pub right : c.x1 ≤ℤ pos 8589934592
  pub high : c.y1 ≤ℤ pos 8589934592

-- some cells, so many squares wide
pub record AreWide (cells : List Rect) (side : ℕ) : Type 0 where
  pub few : side < 4294967296
  pub some : 0 < length cells
  pub width : All (λ c. c.x1 ≡ c.x0 +ℤ pos side) cells

-- the cells of the grid over a layer, among them each with a square of it
pub record AreCells (layer : Region) (side : ℕ) (cells : List Rect) : Type 0 where
  pub rising : AllPairs Before cells
  pub each : All (IsCell side) cells
  pub solid : All IsSolid cells
  pub close : All IsClose cells
  pub full : (p : Pt) → layer p → (c : Rect) × Contains cells c × Has c p

-- the conflicts of a tile's slabs, by their numbers
abbrev pub HasItsEdges : Spacing → Tile → Type 0
HasItsEdges spacing t = AreEdges (Conflict spacing (each_alone t.slabs) t.labels) t.edges

-- tiles by row, then by column
abbrev pub RiseByCell : List Tile → Type 0
RiseByCell tiles = AllPairs (λ (s t : Tile). Before s.cell t.cell) tiles

-- tiles by row, then by column, each with its conflicts
pub record AreKept (spacing : Spacing) (tiles : List Tile) : Type 0 where
  pub rising : RiseByCell tiles
  pub edges : All (HasItsEdges spacing) tiles

-- one of the tiles is this cell with these slabs and labels
abbrev pub IsAmong : List Tile → Rect → List Rect → List ℕ → Type 0
IsAmong tiles cell slabs labels = (t : Tile) × Contains tiles t × (t.cell ≡ cell) × (t.slabs ≡ slabs) × (t.labels ≡ labels)

-- the tile of a cell, as the pieces are
abbrev pub IsTileOf : ℕ → List (List Rect) → List ℕ → Tile → Type 0
IsTileOf rule pieces owners t = (names : List ℕ) × IsWindowOf pieces owners (window rule t.cell) (record { slabs = t.slabs; names = names; labels = t.labels })

-- the tiles before number n go before the cell, and no others do
pub record IsStart (tiles : List Tile) (cell : Rect) (n : ℕ) : Type 0 where
  pub within : n ≤ length tiles
  pub under : (k : ℕ) (t : Tile) → k < n → k < length tiles → Before (slice_index_or tiles k t).cell cell
  pub over : (k : ℕ) (t : Tile) → n ≤ k → k < length tiles → Before (slice_index_or tiles k t).cell cell → ⊥

-- The edges that a cell adds: conflicts, smaller number first, among them all by a square of the first piece in the cell.
pub record AddsConflicts (spacing : Spacing) (pieces : List (List Rect)) (owners : List ℕ) (cell : Rect) (old new : List (ℕ × ℕ)) : Type 0 where
  pub kept : (e : ℕ × ℕ) → Contains old e → Contains new e
  pub sound : (e : ℕ × ℕ) → Contains new e → Contains old e ⊎ ((e.0 < e.1) × Conflict spacing pieces owners e.0 e.1)
  pub full : (e : ℕ × ℕ) (p q : Pt) → e.0 < e.1 → e.1 < length pieces → slice_index owners e.0 ≢ slice_index owners e.1 → part_at pieces e.0 p → part_at pieces e.1 q
      → Near spacing p q → Has cell p → Contains new e

-- A cell adds nothing where it has no square of a piece, else its tile and the conflicts that are found by it.
abbrev pub AddsTile : Spacing → List (List Rect) → List ℕ → Rect → List Tile → List (ℕ × ℕ) → List Tile → List (ℕ × ℕ) → Type 0
AddsTile spacing pieces owners cell tiles edges more_tiles more_edges =
    (¬ IsOccupied (union_of pieces) cell × (more_tiles ≡ tiles) × (more_edges ≡ edges))
    ⊎ ((t : Tile) × (more_tiles ≡ tiles ++ t ∷ []) × (t.cell ≡ cell) × IsTileOf spacing.rule pieces owners t × HasItsEdges spacing t × AddsConflicts spacing pieces
    owners cell edges more_edges)

-- a cell's window isn't as any tile of the cell
pub record IsNew (rule : ℕ) (tiles : List Tile) (pieces : List (List Rect)) (owners : List ℕ) (cell : Rect) : Type 0 where
  pub now : Window
  pub of : IsWindowOf pieces owners (window rule cell) now
  pub missing : ¬ IsAmong tiles cell now.slabs now.labels

-- the same of a cell with a square of a piece
abbrev pub IsChanged : ℕ → List Tile → List (List Rect) → List ℕ → Rect → Type 0
IsChanged rule tiles pieces owners cell = IsOccupied (union_of pieces) cell × IsNew rule tiles pieces owners cell

-- the same of one of some cells
abbrev pub IsChangedAmong : List Rect → ℕ → List Tile → List (List Rect) → List ℕ → Rect → Type 0
IsChangedAmong cells rule tiles pieces owners cell = Contains cells cell × IsChanged rule tiles pieces owners cell

-- a tile whose window isn't as any of the kept ones of its cell
abbrev pub IsFresh : ℕ → List Tile → ℕ → List (List Rect) → List ℕ → Rect → Type 0
IsFresh rule tiles side pieces owners cell = IsTile side (union_of pieces) cell × IsNew rule tiles pieces owners cell

-- the tiles of pieces among these cells, and all conflicts
pub record AreTilesOf (spacing : Spacing) (pieces : List (List Rect)) (owners : List ℕ) (cells : List Rect) (tiles : List Tile) (edges : List (ℕ × ℕ)) : Type 0 where
  pub kept : AreKept spacing tiles
  pub of : All (IsTileOf spacing.rule pieces owners) tiles
  pub full : (c : Rect) → Contains cells c → IsOccupied (union_of pieces) c → (t : Tile) × Contains tiles t × (t.cell ≡ c)
  pub conflicts : AreEdges (Conflict spacing pieces owners) edges

-- what a session keeps of a layer
pub record IsStanding (layer : List Rect) (spacing : Spacing) (overlap side : ℕ) (c : CutPieces) (verdict : Verdict) (tiles : List Tile) : Type 0 where
  pub corner : spacing.corner ≤ spacing.rule
  pub some : 1 ≤ overlap
  pub wide : 1 ≤ side
  pub cut : (features : List (List Rect)) × IsCut None spacing overlap (Covers layer) (cut_view features c)
  pub decided : Decides (Conflict spacing c.parts c.owners) (length c.parts) c.sides verdict
  pub kept : AreKept spacing tiles
  pub of : All (IsTileOf spacing.rule c.parts c.owners) tiles
  pub full : (cell : Rect) → IsTile side (union_of c.parts) cell → (t : Tile) × Contains tiles t × (t.cell ≡ cell)

-- a tile of a layer's cut whose window isn't as any of the kept ones of its cell
pub record IsFreshIn (spacing : Spacing) (overlap : ℕ) (layer : List Rect) (tiles : List Tile) (side : ℕ) (cell : Rect) : Type 0 where
  pub cut : Cut
  pub of : IsCut None spacing overlap (Covers layer) cut
  pub fresh : IsFresh spacing.rule tiles side cut.pieces cut.owners cell

-- the tiles of pieces among the first n cells, and conflicts, among them all by a square of the first piece in one of these cells
pub record AreFoundIn (spacing : Spacing) (pieces : List (List Rect)) (owners : List ℕ) (cells : List Rect) (n : ℕ) (tiles : List Tile) (edges : List (ℕ × ℕ)) : Type 0 where
  pub rising : RiseByCell tiles
  pub before : All (λ (t : Tile). (k : ℕ) × (k < n) × (k < length cells) × ((d : Rect) → slice_index_or cells k d ≡ t.cell)) tiles
  pub own : All (HasItsEdges spacing) tiles
  pub of : All (IsTileOf spacing.rule pieces owners) tiles
  pub full : (k : ℕ) (d : Rect) → k < n → k < length cells → IsOccupied (union_of pieces) (slice_index_or cells k d)
      → (t : Tile) × Contains tiles t × (t.cell ≡ slice_index_or cells k d)
  pub sound : (e : ℕ × ℕ) → Contains edges e → (e.0 < e.1) × Conflict spacing pieces owners e.0 e.1
  pub all : (e : ℕ × ℕ) (p q : Pt) (k : ℕ) (d : Rect) → e.0 < e.1 → e.1 < length pieces → slice_index owners e.0 ≢ slice_index owners e.1 → part_at pieces e.0 p → part_at pieces e.1 q
      → Near spacing p q → k < n → k < length cells → Has (slice_index_or cells k d) p → Contains edges e
