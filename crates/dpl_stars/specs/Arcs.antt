-- The arcs of a graph: each edge, and each edge back.
use Rattle.std.specs.Prelude.{◌≡◌, ◌≢◌, ℕ, suc, ◌<◌, ◌≤◌, List, ◌++◌, map, length, slice_index, slice_index_or}

abbrev pub swapped : ℕ × ℕ → ℕ × ℕ
swapped e = (e.1, e.0)

-- the arcs: the edges, and the edges back
abbrev pub arcs_of : List (ℕ × ℕ) → List (ℕ × ℕ)
arcs_of edges = edges ++ map swapped edges

-- where arc k leads from, and to
abbrev pub arc_at : List (ℕ × ℕ) → ℕ → ℕ × ℕ
arc_at edges k = slice_index_or (arcs_of edges) k (0, 0)

-- p is one more than the last arc below bound that leaves v, or 0 where none does
pub record IsLastArc (edges : List (ℕ × ℕ)) (v bound p : ℕ) : Type 0 where
  pub none : (k : ℕ) → p ≤ k → k < bound → (arc_at edges k).0 ≢ v
  pub within : p ≤ bound
  pub leaves : (k : ℕ) → p ≡ suc k → (arc_at edges k).0 ≡ v

-- the chains of the first so many arcs
pub record AreChains (edges : List (ℕ × ℕ)) (n bound : ℕ) (last before : List ℕ) : Type 0 where
  pub as_many : length last ≡ n
  pub as_many_arcs : length before ≡ bound
  pub heads : (v : ℕ) → v < n → IsLastArc edges v bound (slice_index last v)
  pub chains : (k : ℕ) → k < bound → IsLastArc edges (arc_at edges k).0 k (slice_index before k)
