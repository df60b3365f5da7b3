-- Conflicts by the squares in one cell.
use Rattle.std.specs.Prelude.{◌≢◌, ◌⊎◌, ◌↔◌, ℕ, ◌<◌, List, length, slice_get, slice_index, IfSome}
use Rattle.std.specs.List.{Any}
use Rattle.dpl_spec_split.specs.declared.Spacing.{Spacing}
use Rattle.dpl_spec_split.specs.declared.Rect.{Rect}
use Rattle.dpl_spec_split.specs.Squares.{Region, AreNear, Has}
use Rattle.dpl_spec_split.specs.Zones.{part_at}
use Rattle.dpl_spec_split.specs.Pieces.{Conflict}
use Rattle.dpl_spec_split.specs.Graphs.{AreEdges}
use Rattle.dpl_tile.specs.Tiles.{AreTiles}
use Rattle.dpl_tile.specs.Plans.{Planned}

-- the squares of a set that are in the cell
abbrev pub in_cell : Rect → Region → Region
in_cell cell a p = a p × Has cell p

-- pieces of different features that are near by a square of one of them in the cell
pub record ConflictIn (spacing : Spacing) (pieces : List (List Rect)) (owners : List ℕ) (cell : Rect) (i j : ℕ) : Type 0 where
  pub first : i < length pieces
  pub second : j < length pieces
  pub apart : slice_index owners i ≢ slice_index owners j
  pub near : AreNear spacing (in_cell cell (part_at pieces i)) (part_at pieces j) ⊎ AreNear spacing (part_at pieces i) (in_cell cell (part_at pieces j))

-- pieces conflict where they do so in some tile's cell
abbrev pub TilesMakeTheGraph : Type 0
TilesMakeTheGraph = (spacing : Spacing) (tile : ℕ) (pieces : List (List Rect)) (owners : List ℕ) (cells : List Rect) → 0 < tile
    → AreTiles pieces tile cells → (i j : ℕ) → Conflict spacing pieces owners i j ↔ Any (λ cell. ConflictIn spacing pieces owners cell i j) cells

-- the edges of a tile of the plan, smaller end first, in order, each once
abbrev pub AreEdgesOf : Planned → ℕ → List (ℕ × ℕ) → Type 0
AreEdgesOf plan tile edges = IfSome (slice_get plan.cells tile) (λ cell. AreEdges (ConflictIn plan.spacing plan.parts plan.owners cell) edges)
