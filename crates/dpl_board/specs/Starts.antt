-- Blocks by the tile at which each begins.
use Rattle.std.specs.Prelude.{◌≡◌, ◌+◌, ◌*◌, ◌/◌, ◌^◌, ℕ, List, [], ◌∷◌, slice_index_or, Option, None, Some}

-- the blocks that begin at these tiles, from this one on: for each tile how many times the block there is doubled
abbrev pub blocks_from : ℕ → List (Option ℕ) → List (ℕ × ℕ)
blocks_from t [] = []
blocks_from t (None ∷ starts) = blocks_from (t + 1) starts
blocks_from t (Some k ∷ starts) = (k, t / 2 ^ k) ∷ blocks_from (t + 1) starts

-- the blocks of a table of all tiles
abbrev pub blocks_of : List (Option ℕ) → List (ℕ × ℕ)
blocks_of starts = blocks_from 0 starts

-- each block begins at a multiple of its size
abbrev pub AreAligned : List (Option ℕ) → Type 0
AreAligned starts = (t k : ℕ) → slice_index_or starts t None ≡ Some k → t / 2 ^ k * 2 ^ k ≡ t
