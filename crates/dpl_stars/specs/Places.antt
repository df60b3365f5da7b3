-- The numbers that edges touch, and the edges by their places among them.
use Rattle.std.specs.Prelude.{◌≡◌, ℕ, ◌%◌, ◌<◌, ◌↔◌, ◌==◌, List, [], ◌∷◌, length, slice_index, slice_index_or, map}
use Rattle.std.specs.List.{AllPairs, Any, Contains, flat_map}
use Rattle.dpl_spec_split.specs.Graphs.{graph_of}
use Rattle.dpl_stars.specs.Levels.{AreEdgesBelow}
use Rattle.dpl_stars.specs.declared.list.Star.{Star}

-- both ends of each edge
abbrev pub ends_of : List (ℕ × ℕ) → List ℕ
ends_of edges = flat_map (λ (e : ℕ × ℕ). e.0 ∷ e.1 ∷ []) edges

-- the numbers that some edge touches, in order
pub record AreTouched (edges : List (ℕ × ℕ)) (numbers : List ℕ) : Type 0 where
  pub rising : AllPairs (λ a b. a < b) numbers
  pub exactly : (v : ℕ) → Contains numbers v ↔ ((u : ℕ) × graph_of edges v u)

abbrev pub edge_at : List ℕ → ℕ × ℕ → ℕ × ℕ
edge_at numbers e = (slice_index numbers e.0, slice_index numbers e.1)

-- each edge by the places of its ends
pub record ArePlaced (numbers : List ℕ) (edges placed : List (ℕ × ℕ)) : Type 0 where
  pub is : edges ≡ map (edge_at numbers) placed
  pub below : AreEdgesBelow (length numbers) placed

-- an edge joins two places of one level
abbrev pub IsLevelled : List ℕ → List (ℕ × ℕ) → Type 0
IsLevelled levels placed = Any (λ (e : ℕ × ℕ). slice_index levels e.0 ≡ slice_index levels e.1) placed

abbrev pub row_at : List ℕ → List ℕ → List ℕ → ℕ → Star
row_at numbers roots levels i = record { piece = slice_index numbers i; root = slice_index numbers (slice_index roots i); odd = (slice_index levels i % 2 == 1) }

-- a row for each number, by the root and the level of its place
pub record AreRows (numbers roots levels : List ℕ) (n : ℕ) (rows : List Star) : Type 0 where
  pub len : length rows ≡ n
  pub each : (i : ℕ) (d : Star) → i < n → slice_index_or rows i d ≡ row_at numbers roots levels i
