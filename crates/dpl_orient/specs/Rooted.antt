-- Each piece with the root and the parity that a summary's rows give it.
use Rattle.std.specs.Prelude.{◌≡◌, ◌≢◌, ℕ, ◌<◌, ◌⊎◌, Bool, false, List, length, slice_index, slice_index_or}
use Rattle.std.specs.List.{All, Contains}
use Rattle.dpl_stars.specs.declared.list.Star.{Star}

abbrev pub star : ℕ → ℕ → Bool → Star
star v r odd = record { piece = v; root = r; odd = odd }

-- the piece has this row, or no row, and is its own root
abbrev pub HasStar : List Star → ℕ → ℕ → Bool → Type 0
HasStar rows v root odd = Contains rows (star v root odd) ⊎ (All (λ r. r.piece ≢ v) rows × (root ≡ v) × (odd ≡ false))

-- each piece below n by the rows
pub record AreRooted (rows : List Star) (n : ℕ) (roots : List ℕ) (odds : List Bool) : Type 0 where
  pub as_many_roots : length roots ≡ n
  pub as_many_odds : length odds ≡ n
  pub star : (v : ℕ) → v < n → HasStar rows v (slice_index roots v) (slice_index_or odds v false)

-- the rows' pieces are below n
abbrev pub ArePiecesBelow : ℕ → List Star → Type 0
ArePiecesBelow n rows = All (λ r. r.piece < n) rows

-- the rows' roots are below n
abbrev pub AreRootsBelow : ℕ → List Star → Type 0
AreRootsBelow n rows = All (λ r. r.root < n) rows

-- the sides of zones are below n
abbrev pub AreSidesBelow : ℕ → List (ℕ × ℕ) → Type 0
AreSidesBelow n sides = All (λ (s : ℕ × ℕ). (s.0 < n) × (s.1 < n)) sides
