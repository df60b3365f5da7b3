-- The least number of each component, and how far its numbers lie from it.
use Rattle.std.specs.Prelude.{◌≡◌, ℕ, ◌<◌, List, length, slice_index}
use Rattle.std.specs.List.{All}
use Rattle.dpl_spec_split.specs.Graphs.{IsDistance, IsRoot, graph_of}

-- edges on the numbers below n: two different numbers, the smaller first
abbrev pub AreEdgesBelow : ℕ → List (ℕ × ℕ) → Type 0
AreEdgesBelow n edges = All (λ (e : ℕ × ℕ). (e.0 < e.1) × (e.1 < n)) edges

-- for each number below n the least number of its component, and its distance from that
pub record AreLevels (edges : List (ℕ × ℕ)) (n : ℕ) (roots levels : List ℕ) : Type 0 where
  pub as_many_roots : length roots ≡ n
  pub as_many_levels : length levels ≡ n
  pub root : (v : ℕ) → v < n → IsRoot (graph_of edges) v (slice_index roots v)
  pub level : (v : ℕ) → v < n → IsDistance (graph_of edges) (slice_index roots v) v (slice_index levels v)
