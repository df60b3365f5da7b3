-- The root and the parity of each piece below n, by the piece's place.
use Rattle.std.specs.Prelude.{◌≡◌, ℕ, ◌+◌, ◌<◌, false, Bool, List, length, slice_index_or, map}
use Rattle.dpl_stars.specs.declared.list.Star.{Star}
use Rattle.dpl_orient.specs.declared.chart.Rooted.{Rooted}
use Rattle.dpl_orient.specs.Rooted.{HasStar}

-- of a piece that no edge touches
abbrev pub own_root : ℕ → Rooted
own_root v = record { root = v; odd = false }

-- of a row's piece
abbrev pub rooted_by : Star → Rooted
rooted_by r = record { root = r.root; odd = r.odd }

-- of piece v
abbrev pub rooted_at : List Rooted → ℕ → Rooted
rooted_at chart v = slice_index_or chart v (own_root v)

pub record IsChart (rows : List Star) (n : ℕ) (chart : List Rooted) : Type 0 where
  pub len : length chart ≡ n
  pub each : (v : ℕ) → v < n → HasStar rows v (rooted_at chart v).root (rooted_at chart v).odd

abbrev pub roots_in : List Rooted → List ℕ
roots_in = map (λ s. s.root)

abbrev pub odds_in : List Rooted → List Bool
odds_in = map (λ s. s.odd)

-- roots aren't above their pieces
abbrev pub AreLow : List Rooted → Type 0
AreLow chart = (v : ℕ) → v < length chart → (rooted_at chart v).root < v + 1
