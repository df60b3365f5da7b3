-- Levels of strongly connected parts, and the search that finds them.
use Rattle.std.specs.Prelude.{◌≡◌, ℕ, ◌+◌, ◌*◌, ◌<◌, ◌≤◌, ◌⊎◌, ◌++◌, ◌∷◌, [], Bool, List, length, slice_index, sum_by}
use Rattle.std.specs.List.{Contains}
use Rattle.dpl_links.specs.Graph.{targets_at, LeadsTo, Reaches, IsMarked}
use Rattle.dpl_links.specs.Marks.{unmarked}
use Rattle.dpl_links.specs.Order.{end_of, to_go}
use Rattle.dpl_links.specs.declared.order.Visit.{Visit}
use Rattle.dpl_links.specs.declared.levels.Part.{Part}
use Rattle.dpl_links.specs.declared.levels.Search.{Search}

-- along an edge of vertex k the level falls, or it stays and the edge lies on a cycle
abbrev pub IsLevelAt : List (List ℕ) → List ℕ → ℕ → ℕ → Type 0
IsLevelAt graph levels k j = (slice_index levels j < slice_index levels k) ⊎ ((slice_index levels j ≡ slice_index levels k) × Reaches graph j k)

-- so along each edge of the vertices that from reaches
abbrev pub AreLevels : List (List ℕ) → ℕ → List ℕ → Type 0
AreLevels graph from levels = (k j : ℕ) → Reaches graph from k → LeadsTo graph k j → IsLevelAt graph levels k j

-- ---- the search

-- the keys rise from each to the next
pub data IsRising {X : Type 0} (key : X → ℕ) : List X → Type 0 where
  none_rise : {xs : List X} → length xs ≡ 0 → IsRising key xs
  one_more_rises : {xs : List X} (rest : List X) (x : X) → xs ≡ rest ++ x ∷ [] → IsRising key rest → ((y : X) → Contains rest y → key y < key x) → IsRising key xs

-- in the order of finding
abbrev pub by_part : List ℕ → Part → ℕ
by_part numbers p = slice_index numbers p.root

abbrev pub by_visit : List ℕ → Visit → ℕ
by_visit numbers v = slice_index numbers v.vertex

-- the vertex belongs to the part
abbrev pub IsOf : Part → ℕ → Type 0
IsOf p k = Contains p.vertices.items k

-- the vertex is open: it belongs to one of the parts
abbrev pub IsOpen : List Part → ℕ → Type 0
IsOpen parts k = (p : Part) × Contains parts p × IsOf p k

-- an edge of the part's vertex k was gone down, to j: no edge leads before the part's root
abbrev pub IsGoneDown : List Bool → List Bool → List ℕ → Part → ℕ → Type 0
IsGoneDown found closed numbers p j = IsMarked closed j ⊎ (IsMarked found j × (by_part numbers p ≤ slice_index numbers j))

-- edge i of vertex k is still to be gone down
abbrev pub IsToGo : List Visit → ℕ → ℕ → Type 0
IsToGo path k i = (v : Visit) × Contains path v × (v.vertex ≡ k) × (v.gone ≤ i)

-- what is known of an open part
pub record IsPart (graph : List (List ℕ)) (found closed : List Bool) (numbers : List ℕ) (parts : List Part) (path : List Visit) (p : Part) : Type 0 where
  pub rooted : IsOf p p.root
  pub on_path : (v : Visit) × Contains path v × (v.vertex ≡ p.root)
  pub whole : (k j : ℕ) → IsOf p k → IsOf p j → Reaches graph k j
  pub was_found : (k : ℕ) → IsOf p k → IsMarked found k
  pub unshut : (k : ℕ) → IsOf p k → ¬ IsMarked closed k
  pub from_root : (k : ℕ) → IsOf p k → by_part numbers p ≤ slice_index numbers k
  pub to_next : (k : ℕ) (q : Part) → IsOf p k → Contains parts q → by_part numbers p < by_part numbers q → slice_index numbers k < by_part numbers q
  pub chain : (q : Part) → Contains parts q → by_part numbers p ≤ by_part numbers q → Reaches graph p.root q.root
  pub gone : (k i : ℕ) → IsOf p k → i < length (targets_at graph k) → IsGoneDown found closed numbers p (end_of graph k i) ⊎ IsToGo path k i

-- how far a search is
pub record IsPartSearch (graph : List (List ℕ)) (from : ℕ) (found closed : List Bool) (numbers levels : List ℕ) (parts : List Part)
    (path : List Visit) (count closings : ℕ) : Type 0 where
  pub found_each : length found ≡ length graph
  pub closed_each : length closed ≡ length graph
  pub numbers_each : length numbers ≡ length graph
  pub levels_each : length levels ≡ length graph
  pub begun : IsMarked found from
  pub reached : (k : ℕ) → IsMarked found k → Reaches graph from k
  pub numbered : (k : ℕ) → IsMarked found k → slice_index numbers k < count
  pub apart : (k : ℕ) → IsMarked found k → IsMarked closed k ⊎ IsOpen parts k
  pub part : (p : Part) → Contains parts p → IsPart graph found closed numbers parts path p
  pub parts_rise : IsRising (by_part numbers) parts
  pub path_rise : IsRising (by_visit numbers) path
  pub path_found : (v : Visit) → Contains path v → IsMarked found v.vertex
  pub path_unshut : (v : Visit) → Contains path v → ¬ IsMarked closed v.vertex
  pub shut_low : (k : ℕ) → IsMarked closed k → slice_index levels k < closings
  pub shut : (k j : ℕ) → IsMarked closed k → LeadsTo graph k j → IsMarked closed j × IsLevelAt graph levels k j

-- how much is left to do
abbrev pub parts_left : List (List ℕ) → List Bool → List Visit → List Part → ℕ
parts_left graph found path parts = (unmarked found * (sum_by length graph + 3) + sum_by (to_go graph) path) + length parts

-- what a search holds, with these parts and this path
abbrev pub IsSearching : List (List ℕ) → ℕ → Search → List Part → List Visit → Type 0
IsSearching graph from s parts path =
    IsPartSearch graph from s.found.items s.closed.items s.numbers.items s.levels.items parts path (length s.finds.items) (length s.roots.items)

-- these vertices were closed, on this level
pub record AreClosed (vertices : List ℕ) (level : ℕ) (old new : List Bool) (before after : List ℕ) : Type 0 where
  pub each : length new ≡ length old
  pub levels_each : length after ≡ length before
  pub keeps : (k : ℕ) → IsMarked old k → IsMarked new k
  pub sets : (k : ℕ) → Contains vertices k → IsMarked new k
  pub alone : (k : ℕ) → IsMarked new k → IsMarked old k ⊎ Contains vertices k
  pub level_is : (k : ℕ) → Contains vertices k → slice_index after k ≡ level
  pub stays : (k : ℕ) → ¬ Contains vertices k → slice_index after k ≡ slice_index before k
