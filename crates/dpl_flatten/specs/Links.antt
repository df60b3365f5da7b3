-- The graph of a layout's references.
use Rattle.std.specs.Prelude.{◌≡◌, ℕ, ◌<◌, ◌≤◌, List, length, slice_index, Bool}
use Rattle.std.specs.List.{Contains}
use Rattle.dpl_spec_format.specs.Tree.{Library, Element, elements_at, HasPoints}
use Rattle.dpl_spec_layout.specs.Structures.{Refers}
use Rattle.dpl_links.specs.Graph.{LeadsTo, IsMarked}
use Rattle.dpl_links.specs.Parts.{IsLevelAt}
use Rattle.dpl_links.specs.Order.{IsPlaced}

-- a vertex for each structure, which leads to the structures that its references refer to
pub record IsGraphOf (lib : Library) (graph : List (List ℕ)) : Type 0 where
  pub each : length graph ≡ length lib.structures
  pub leads : (k j : ℕ) → LeadsTo graph k j → Refers lib k j
  pub refers : (k j : ℕ) → Refers lib k j → LeadsTo graph k j
  pub sized : (k : ℕ) (e : Element) → Contains (elements_at lib k) e → HasPoints e.body

-- the graph of the references, and marks of structures; the targets of marked structures are marked
pub record IsLinked (lib : Library) (graph : List (List ℕ)) (marks : List Bool) : Type 0 where
  pub graph_of : IsGraphOf lib graph
  pub closed : (k j : ℕ) → IsMarked marks k → LeadsTo graph k j → IsMarked marks j

-- and levels that fall along a reference of a marked structure, or stay where it lies on a cycle
pub record IsLevelled (lib : Library) (graph : List (List ℕ)) (marks : List Bool) (levels : List ℕ) : Type 0 where
  pub linked : IsLinked lib graph marks
  pub levels_fall : (k j : ℕ) → IsMarked marks k → LeadsTo graph k j → IsLevelAt graph levels k j

-- along a reference of a marked structure the level falls
abbrev pub AlwaysFalls : List (List ℕ) → List Bool → List ℕ → Type 0
AlwaysFalls graph marks levels = (k j : ℕ) → IsMarked marks k → LeadsTo graph k j → slice_index levels j < slice_index levels k

-- the marked structures, each once, behind those to which it refers; the level of each is its place in the order
pub record IsOrdered (lib : Library) (graph : List (List ℕ)) (marks : List Bool) (levels vertices : List ℕ) : Type 0 where
  pub placed : (k : ℕ) → IsMarked marks k → IsPlaced levels vertices k
  pub falls : AlwaysFalls graph marks levels
  pub known : (k : ℕ) → Contains vertices k → k < length lib.structures
  pub own : (i : ℕ) → i < length vertices → IsMarked marks (slice_index vertices i) × (slice_index levels (slice_index vertices i) ≡ i)
  pub few : length vertices ≤ length lib.structures
