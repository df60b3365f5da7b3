-- Orders of vertices in which every edge leads back, and the search for one.
use Rattle.std.specs.Prelude.{◌≡◌, ◌≢◌, ℕ, ◌+◌, ◌-◌, ◌*◌, ◌<◌, ◌≤◌, ◌⊎◌, ◌++◌, ◌∷◌, [], Bool, List, length, slice_index, sum_by}
use Rattle.std.specs.List.{Contains}
use Rattle.dpl_links.specs.Graph.{targets_at, LeadsTo, Reaches, IsMarked}
use Rattle.dpl_links.specs.Marks.{unmarked}
use Rattle.dpl_links.specs.declared.order.Visit.{Visit}

-- vertex k stands in the order at its level
pub record IsPlaced (levels vertices : List ℕ) (k : ℕ) : Type 0 where
  pub inside : slice_index levels k < length vertices
  pub stands : slice_index vertices (slice_index levels k) ≡ k

-- The vertices that from reaches, each once, behind all those to which it leads. The level of each is its place in the order.
pub record IsOrder (graph : List (List ℕ)) (from : ℕ) (levels vertices : List ℕ) : Type 0 where
  pub placed : (k : ℕ) → Reaches graph from k → IsPlaced levels vertices k
  pub falls : (k j : ℕ) → Reaches graph from k → LeadsTo graph k j → slice_index levels j < slice_index levels k
  pub alone : (k : ℕ) → Contains vertices k → Reaches graph from k
  pub once : (i : ℕ) → i < length vertices → slice_index levels (slice_index vertices i) ≡ i
  pub few : length vertices ≤ length graph
  pub each : length levels ≡ length graph

-- from reaches a vertex of which an edge lies on a cycle
abbrev pub HasCycle : List (List ℕ) → ℕ → Type 0
HasCycle graph from = (k j : ℕ) × Reaches graph from k × LeadsTo graph k j × Reaches graph j k

-- ---- the search

-- where the edge of this number leads
abbrev pub end_of : List (List ℕ) → ℕ → ℕ → ℕ
end_of graph k i = slice_index (targets_at graph k) i

-- an open vertex, all of whose edges that were gone down lead to closed vertices, but for those that lead to w
pub record IsOnWay (graph : List (List ℕ)) (found closed : List Bool) (v : Visit) (w : ℕ) : Type 0 where
  pub was_found : IsMarked found v.vertex
  pub unshut : ¬ IsMarked closed v.vertex
  pub edge : LeadsTo graph v.vertex w
  pub gone : (i : ℕ) → i < v.gone → IsMarked closed (end_of graph v.vertex i) ⊎ (end_of graph v.vertex i ≡ w)

-- the path leads on to w, which isn't on it
pub data IsPathTo (graph : List (List ℕ)) (found closed : List Bool) : List Visit → ℕ → Type 0 where
  begins : {path : List Visit} {w : ℕ} → length path ≡ 0 → IsPathTo graph found closed path w
  goes_on : {path : List Visit} {w : ℕ} (rest : List Visit) (v : Visit) → path ≡ rest ++ v ∷ [] → IsPathTo graph found closed rest v.vertex
      → IsOnWay graph found closed v w → ((u : Visit) → Contains path u → u.vertex ≢ w) → IsPathTo graph found closed path w

-- the last vertex of a path
pub record IsLast (graph : List (List ℕ)) (found closed : List Bool) (rest : List Visit) (v : Visit) : Type 0 where
  pub path : IsPathTo graph found closed rest v.vertex
  pub was_found : IsMarked found v.vertex
  pub unshut : ¬ IsMarked closed v.vertex
  pub gone : (i : ℕ) → i < v.gone → IsMarked closed (end_of graph v.vertex i)

-- a vertex that is done with, as are all those to which it leads
pub record IsShut (graph : List (List ℕ)) (closed : List Bool) (levels vertices : List ℕ) (k : ℕ) : Type 0 where
  pub placed : IsPlaced levels vertices k
  pub below : (j : ℕ) → LeadsTo graph k j → IsMarked closed j
  pub falls : (j : ℕ) → LeadsTo graph k j → slice_index levels j < slice_index levels k

-- the vertex at place i is done with, and i is its level
pub record IsOwnPlace (closed : List Bool) (levels vertices : List ℕ) (i : ℕ) : Type 0 where
  pub shut : IsMarked closed (slice_index vertices i)
  pub level : slice_index levels (slice_index vertices i) ≡ i

-- how far a search is
pub record IsSearch (graph : List (List ℕ)) (from : ℕ) (found closed : List Bool) (levels vertices : List ℕ) (path : List Visit) : Type 0 where
  pub found_each : length found ≡ length graph
  pub closed_each : length closed ≡ length graph
  pub levels_each : length levels ≡ length graph
  pub begun : IsMarked found from
  pub reached : (k : ℕ) → IsMarked found k → Reaches graph from k
  pub apart : (k : ℕ) → IsMarked found k → IsMarked closed k ⊎ ((v : Visit) × Contains path v × (v.vertex ≡ k))
  pub last : (rest : List Visit) (v : Visit) → path ≡ rest ++ v ∷ [] → IsLast graph found closed rest v
  pub shut : (k : ℕ) → IsMarked closed k → IsShut graph closed levels vertices k
  pub alone : (k : ℕ) → Contains vertices k → IsMarked found k
  pub own : (i : ℕ) → i < length vertices → IsOwnPlace closed levels vertices i
  pub count : (unmarked found + length path) + length vertices ≡ length graph

-- how many edges of a vertex are still to be gone down, and the way back from it
abbrev pub to_go : List (List ℕ) → Visit → ℕ
to_go graph v = (length (targets_at graph v.vertex) - v.gone) + 1

-- how much is left to do
abbrev pub left : List (List ℕ) → List Bool → List Visit → ℕ
left graph found path = unmarked found * (sum_by length graph + 2) + sum_by (to_go graph) path
