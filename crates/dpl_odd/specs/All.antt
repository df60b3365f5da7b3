-- The odd cycles of all components of a graph.
use Rattle.std.specs.Prelude.{◌≡◌, ◌≢◌, ℕ, ◌<◌, ◌⊎◌, ◌↔◌, List, [], ◌∷◌, ◌++◌, reverse, length, slice_index, slice_index_or}
use Rattle.std.specs.List.{AllPairs, Contains}
use Rattle.dpl_spec_split.specs.Graphs.{Graph, IsRoot, Precedes}
use Rattle.dpl_spec_split.specs.Cycle.{IsLevelEdge, Climb}
use Rattle.dpl_stars.specs.Laws.{HasOddCycleAt}

-- the cycle that is reported of the component of which root is the least number
pub record IsReportedAt (joined : Graph) (root : ℕ) (cycle : List ℕ) : Type 0 where
  pub edge : ℕ × ℕ
  pub top : ℕ
  pub us : List ℕ
  pub vs : List ℕ
  pub on : IsLevelEdge joined root edge
  pub least : (e : ℕ × ℕ) → IsLevelEdge joined root e → (edge ≡ e) ⊎ Precedes edge e
  pub first : Climb joined root top edge.0 us
  pub second : Climb joined root top edge.1 vs
  pub meet : length us ≡ length vs
  pub apart : (k : ℕ) → k < length us → slice_index us k ≢ slice_index vs k
  pub is : cycle ≡ top ∷ reverse us ++ vs

-- for each component with an odd cycle the cycle that is reported of it, by its least number, in order, each once
pub record AreOddCycles (joined : Graph) (cycles : List (List ℕ)) : Type 0 where
  pub roots : List ℕ
  pub ordered : AllPairs (λ r s. r < s) roots
  pub exactly : (root : ℕ) → Contains roots root ↔ (IsRoot joined root root × HasOddCycleAt joined root)
  pub as_many : length cycles ≡ length roots
  pub reported : (k : ℕ) → k < length roots → IsReportedAt joined (slice_index roots k) (slice_index_or cycles k [])
