-- The vertices to which no edge leads.
use Rattle.std.specs.Prelude.{ℕ, ◌<◌, ◌↔◌, List, length, Bool}
use Rattle.std.specs.List.{AllPairs, Contains}
use Rattle.dpl_links.specs.Graph.{LeadsTo, IsMarked}

-- an edge of one of the first n vertices leads to j
abbrev pub IsEntered : List (List ℕ) → ℕ → ℕ → Type 0
IsEntered graph n j = (k : ℕ) × (k < n) × LeadsTo graph k j

pub record IsSource (graph : List (List ℕ)) (k : ℕ) : Type 0 where
  pub known : k < length graph
  pub alone : (j : ℕ) → LeadsTo graph j k → ⊥

pub record AreSources (graph : List (List ℕ)) (sources : List ℕ) : Type 0 where
  pub ordered : AllPairs (λ i j. i < j) sources
  pub exactly : (k : ℕ) → Contains sources k ↔ IsSource graph k

-- the vertices whose marks aren't set
pub record AreUnmarked (marks : List Bool) (found : List ℕ) : Type 0 where
  pub ordered : AllPairs (λ i j. i < j) found
  pub sound : (k : ℕ) → Contains found k → (k < length marks) × ¬ IsMarked marks k
  pub complete : (k : ℕ) → k < length marks → ¬ IsMarked marks k → Contains found k
