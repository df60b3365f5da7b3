-- Graphs of numbered vertices, each with the list of those to which it leads.
use Rattle.std.specs.Prelude.{◌≡◌, ℕ, ◌<◌, true, false, Bool, List, [], length, slice_index_or}
use Rattle.std.specs.List.{Contains}

-- the targets of vertex k
abbrev pub targets_at : List (List ℕ) → ℕ → List ℕ
targets_at graph k = slice_index_or graph k []

abbrev pub LeadsTo : List (List ℕ) → ℕ → ℕ → Type 0
LeadsTo graph k j = Contains (targets_at graph k) j

-- edges lead from k to l
pub data Reaches (graph : List (List ℕ)) : ℕ → ℕ → Type 0 where
  here : {k : ℕ} → Reaches graph k k
  on : {k j l : ℕ} → LeadsTo graph k j → Reaches graph j l → Reaches graph k l

-- each target is a vertex
abbrev pub IsGraph : List (List ℕ) → Type 0
IsGraph graph = (k j : ℕ) → LeadsTo graph k j → j < length graph

-- the mark at k is set
abbrev pub IsMarked : List Bool → ℕ → Type 0
IsMarked marks k = slice_index_or marks k false ≡ true

-- the marked vertices are those that from reaches
pub record AreReached (graph : List (List ℕ)) (from : ℕ) (marks : List Bool) : Type 0 where
  pub each : length marks ≡ length graph
  pub sound : (k : ℕ) → IsMarked marks k → Reaches graph from k
  pub complete : (k : ℕ) → Reaches graph from k → IsMarked marks k
