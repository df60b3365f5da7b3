-- The one odd cycle that is reported.
use Rattle.std.specs.Prelude.{◌≡◌, ◌≢◌, ℕ, ◌+◌, ◌<◌, ◌≤◌, ◌⊎◌, List, [], ◌∷◌, ◌++◌, reverse, length, slice_index}
use Rattle.dpl_spec_split.specs.Graphs.{Graph, IsDistance, Precedes}

-- u and v are joined, and lie on one level below root
pub record IsLevelEdge (joined : Graph) (root : ℕ) (e : ℕ × ℕ) : Type 0 where
  pub order : e.0 < e.1
  pub joined_by : joined e.0 e.1
  pub level : (n : ℕ) × IsDistance joined root e.0 n × IsDistance joined root e.1 n

-- the least neighbour one level lower
pub record IsParent (joined : Graph) (root child parent : ℕ) : Type 0 where
  pub joined_by : joined child parent
  pub level : (n : ℕ) × IsDistance joined root parent n × IsDistance joined root child (n + 1)
  pub least : (u n : ℕ) → joined child u → IsDistance joined root u n → IsDistance joined root child (n + 1) → parent ≤ u

-- from a vertex up through parents to just below the meeting one
pub data Climb (joined : Graph) (root top : ℕ) : ℕ → List ℕ → Type 0 where
  last : {v : ℕ} → IsParent joined root v top → Climb joined root top v (v ∷ [])
  up : {u v : ℕ} {us : List ℕ} → IsParent joined root v u → Climb joined root top u us → Climb joined root top v (v ∷ us)

-- root is the least vertex whose component has an odd cycle
pub record IsOddRoot (joined : Graph) (root : ℕ) : Type 0 where
  pub has : (e : ℕ × ℕ) × IsLevelEdge joined root e
  pub least : (r : ℕ) (e : ℕ × ℕ) → IsLevelEdge joined r e → root ≤ r

pub record IsReported (joined : Graph) (cycle : List ℕ) : Type 0 where
  pub root : ℕ
  pub edge : ℕ × ℕ
  pub top : ℕ
  pub us : List ℕ
  pub vs : List ℕ
  pub odd : IsOddRoot joined root
  pub on : IsLevelEdge joined root edge
  pub least : (e : ℕ × ℕ) → IsLevelEdge joined root e → (edge ≡ e) ⊎ Precedes edge e
  pub first : Climb joined root top edge.0 us
  pub second : Climb joined root top edge.1 vs
  pub meet : length us ≡ length vs
  pub apart : (k : ℕ) → k < length us → slice_index us k ≢ slice_index vs k
  pub is : cycle ≡ top ∷ reverse us ++ vs
