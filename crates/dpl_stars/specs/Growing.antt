-- How far a breadth-first walk has come.
use Rattle.std.specs.Prelude.{◌≡◌, ◌≢◌, ℕ, suc, ◌+◌, ◌<◌, ◌≤◌, ◌==◌, [], ◌∷◌, ◌++◌, List, length, count_by, slice_index, slice_set}
use Rattle.dpl_spec_split.specs.Graphs.{Walk, graph_of}
use Rattle.dpl_stars.specs.declared.reached.Reached.{Reached}

abbrev pub root_in : Reached → ℕ → ℕ
root_in x v = slice_index x.roots.items v

abbrev pub level_in : Reached → ℕ → ℕ
level_in x v = slice_index x.levels.items v

abbrev pub place_in : Reached → ℕ → ℕ
place_in x j = slice_index x.order.items j

abbrev pub reached_count : Reached → ℕ
reached_count x = length x.order.items

-- All numbers below bound are reached. The neighbours of the first head in the order are reached, and the rest of the
-- order is of the component of now.
pub record IsGrown (edges : List (ℕ × ℕ)) (n bound now head : ℕ) (x : Reached) : Type 0 where
  pub as_many_roots : length x.roots.items ≡ n
  pub as_many_levels : length x.levels.items ≡ n
  pub count : count_by (λ v. v == n) x.roots.items + reached_count x ≡ n
  pub listed : (j : ℕ) → j < reached_count x → (place_in x j < n) × (root_in x (place_in x j) ≢ n)
  pub found : (v : ℕ) → v < n → root_in x v ≢ n → (j : ℕ) × (j < reached_count x) × (place_in x j ≡ v)
  pub sound : (v : ℕ) → v < n → root_in x v ≢ n → Walk (graph_of edges) (root_in x v) v (level_in x v)
  pub low : (v : ℕ) → v < n → root_in x v ≢ n → root_in x v ≤ v
  pub shallow : (v : ℕ) → v < n → root_in x v ≢ n → level_in x v < reached_count x
  pub rooted : (v : ℕ) → v < n → root_in x v ≢ n → (root_in x (root_in x v) ≡ root_in x v) × (level_in x (root_in x v) ≡ 0)
  pub before : (v : ℕ) → v < bound → root_in x v ≢ n
  pub within : head ≤ reached_count x
  pub closed : (j : ℕ) → j < head → (w : ℕ) → graph_of edges (place_in x j) w → (root_in x w ≡ root_in x (place_in x j)) × (level_in x w ≤ suc (level_in x (place_in x j)))
  pub same : (j : ℕ) → head ≤ j → j < reached_count x → root_in x (place_in x j) ≡ now
  pub rising : (i j : ℕ) → head ≤ i → i ≤ j → j < reached_count x → level_in x (place_in x i) ≤ level_in x (place_in x j)
  pub near : (v : ℕ) → v < n → root_in x v ≡ now → (j : ℕ) → head ≤ j → j < reached_count x → level_in x v ≤ suc (level_in x (place_in x j))

-- v is noted with this root and level
pub record IsNoted (v root level : ℕ) (x y : Reached) : Type 0 where
  pub roots : y.roots.items ≡ slice_set x.roots.items v root
  pub levels : y.levels.items ≡ slice_set x.levels.items v level
  pub order : y.order.items ≡ x.order.items ++ v ∷ []

-- v is noted where it was not reached, and else nothing changes
pub record IsMet (n v root level : ℕ) (x y : Reached) : Type 0 where
  pub reached : root_in x v ≢ n → y ≡ x
  pub new : root_in x v ≡ n → IsNoted v root level x y
