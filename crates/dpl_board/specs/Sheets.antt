-- The edges of tiles, and who posted a tile.
use Rattle.std.specs.Prelude.{◌≡◌, ◌<◌, ℕ, ◌==◌, List, [], length, slice_index_or, Option, Some, None, option_map}
use Rattle.std.specs.List.{All, find, flat_map}
use Rattle.dpl_stars.specs.Sums.{AreEdgePairs}
use Rattle.dpl_board.specs.declared.entry.Entry.{Entry}

-- for each tile a list of edges
abbrev pub Sheet : Type 0
Sheet = List (List (ℕ × ℕ))

-- an edge has two different numbers, the smaller first
abbrev pub IsSheet : Sheet → Type 0
IsSheet sheet = All AreEdgePairs sheet

abbrev pub edges_at : Sheet → ℕ → List (ℕ × ℕ)
edges_at sheet tile = slice_index_or sheet tile []

-- the edges of all tiles together
abbrev pub all_edges : Sheet → List (ℕ × ℕ)
all_edges sheet = flat_map (λ (es : List (ℕ × ℕ)). es) sheet

abbrev pub entry : ℕ → ℕ → Entry
entry worker tile = record { worker = worker; tile = tile }

-- the edges of the tiles of these entries together
abbrev pub edges_of : Sheet → List Entry → List (ℕ × ℕ)
edges_of sheet entries = flat_map (λ (e : Entry). edges_at sheet e.tile) entries

-- the worker of the first entry that has the tile
abbrev pub poster_in : ℕ → List Entry → Option ℕ
poster_in tile entries = option_map (λ (e : Entry). e.worker) (find (λ (e : Entry). e.tile == tile) entries)

abbrev pub IsPosted : ℕ → List Entry → Type 0
IsPosted tile entries = (worker : ℕ) × (poster_in tile entries ≡ Some worker)

-- for each tile the worker of the first entry that has it
pub record AreWorkers (tiles : ℕ) (entries : List Entry) (workers : List (Option ℕ)) : Type 0 where
  pub len : length workers ≡ tiles
  pub each : (t : ℕ) → t < tiles → slice_index_or workers t None ≡ poster_in t entries
