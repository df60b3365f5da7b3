-- One numbering of the tiles of many jobs: those of each job follow those of the jobs before it.
use Rattle.std.specs.Prelude.{◌≡◌, ◌+◌, ◌<◌, ℕ, List, [], length, take, slice_index_or}
use Rattle.std.specs.List.{sum_by}
use Rattle.dpl_board.specs.Sheets.{Sheet}
use Rattle.dpl_deal.specs.Hands.{EachAt}
use Rattle.dpl_pool.specs.declared.numbers.Numbers.{Numbers}

-- how many tiles these sheets have together
abbrev pub tile_count : List Sheet → ℕ
tile_count sheets = sum_by (λ (s : Sheet). length s) sheets

-- how many the first n of them have
abbrev pub tiles_before : ℕ → List Sheet → ℕ
tiles_before n sheets = tile_count (take n sheets)

-- these are the number of each sheet's first tile, and how many tiles all sheets have
pub record IsNumbered (sheets : List Sheet) (n : Numbers) : Type 0 where
  pub len : length n.firsts.items ≡ length sheets
  pub firsts : EachAt (λ (j first : ℕ). first ≡ tiles_before j sheets) n.firsts.items
  pub tiles : n.tiles ≡ tile_count sheets

-- the tile of this number is tile k of sheet j
pub record IsPlace (sheets : List Sheet) (number j k : ℕ) : Type 0 where
  pub below : k < length (slice_index_or sheets j [])
  pub sum : tiles_before j sheets + k ≡ number
