-- What follows from the definition of tiles.
use Rattle.std.specs.Prelude.{◌≡◌, ℕ, ◌<◌, List}
use Rattle.std.specs.List.{Contains}
use Rattle.dpl_spec_split.specs.declared.Pt.{Pt}
use Rattle.dpl_spec_split.specs.declared.Rect.{Rect}
use Rattle.dpl_spec_split.specs.Squares.{Has}
use Rattle.dpl_slabs.specs.Parts.{union_of}
use Rattle.dpl_tile.specs.Tiles.{AreTiles}

-- the one cell of the list that has the square
pub record IsOnlyCell (cells : List Rect) (p : Pt) (cell : Rect) : Type 0 where
  pub listed : Contains cells cell
  pub inside : Has cell p
  pub only : (other : Rect) → Contains cells other → Has other p → other ≡ cell

-- each square of a part is in one tile's cell
abbrev pub SquaresHaveOneCell : Type 0
SquaresHaveOneCell = (parts : List (List Rect)) (tile : ℕ) (cells : List Rect) → 0 < tile → AreTiles parts tile cells → (p : Pt)
    → union_of parts p → (cell : Rect) × IsOnlyCell cells p cell
