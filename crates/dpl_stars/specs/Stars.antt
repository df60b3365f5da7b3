-- Rows by rising piece.
use Rattle.std.specs.Prelude.{ℕ, ◌<◌, ◌≤◌, false, true, List}
use Rattle.std.specs.List.{All, AllPairs, Contains}
use Rattle.dpl_stars.specs.declared.list.Star.{Star}

-- the row of a component's least piece
abbrev pub own_row : ℕ → Star
own_row v = record { piece = v; root = v; odd = false }

-- the row of a piece at an odd distance from this root
abbrev pub odd_row : ℕ → ℕ → Star
odd_row v root = record { piece = v; root = root; odd = true }

-- Pieces rise, and each root is at most its piece and has a row of its own, even, with itself as root. It has an odd row too, since an edge leads
-- from it: no component has one piece alone
pub record IsStarList (rows : List Star) : Type 0 where
  pub rising : AllPairs (λ a b. a.piece < b.piece) rows
  pub low : All (λ r. r.root ≤ r.piece) rows
  pub rooted : All (λ r. Contains rows (own_row r.root)) rows
  pub paired : All (λ r. (v : ℕ) × Contains rows (odd_row v r.root)) rows
