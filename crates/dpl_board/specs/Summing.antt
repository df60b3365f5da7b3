-- Summaries of the edges of tiles.
use Rattle.std.specs.Prelude.{ℕ, List, map}
use Rattle.std.specs.List.{AllZip, flat_map}
use Rattle.dpl_stars.specs.declared.joined.Joined.{Joined}
use Rattle.dpl_stars.specs.Sums.{Sums}
use Rattle.dpl_board.specs.declared.entry.Entry.{Entry}
use Rattle.dpl_board.specs.Sheets.{Sheet, edges_at}

-- the edges of these tiles together
abbrev pub edges_in : Sheet → List ℕ → List (ℕ × ℕ)
edges_in sheet tiles = flat_map (λ (t : ℕ). edges_at sheet t) tiles

-- the tiles of these entries
abbrev pub tiles_of : List Entry → List ℕ
tiles_of entries = map (λ (e : Entry). e.tile) entries

-- the tiles of these parts together
abbrev pub tiles_in : List (List ℕ) → List ℕ
tiles_in parts = flat_map (λ (tiles : List ℕ). tiles) parts

-- each sums up the edges of the tiles of its part
abbrev pub AreSums : Sheet → List (List ℕ) → List Joined → Type 0
AreSums sheet parts sums = AllZip (λ (tiles : List ℕ) (j : Joined). Sums (edges_in sheet tiles) j) parts sums
