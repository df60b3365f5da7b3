-- Odd cycles and levels.
use Rattle.std.specs.Prelude.{ℕ, ◌<◌, ◌↔◌, List}
use Rattle.std.specs.List.{All}
use Rattle.dpl_spec_split.specs.Graphs.{Graph, Reaches, IsRoot, IsOddCycle, graph_of}
use Rattle.dpl_spec_split.specs.Cycle.{IsLevelEdge, IsOddRoot, IsReported}
use Rattle.dpl_spec_split.specs.Summary.{HasOddCycle}

-- an odd cycle in the component of root
abbrev pub HasOddCycleAt : Graph → ℕ → Type 0
HasOddCycleAt joined root = (cycle : List ℕ) × IsOddCycle joined cycle × All (λ v. Reaches joined root v) cycle

abbrev pub HasLevelEdge : Graph → ℕ → Type 0
HasLevelEdge joined root = (e : ℕ × ℕ) × IsLevelEdge joined root e

abbrev pub AreOrdered : List (ℕ × ℕ) → Type 0
AreOrdered edges = All (λ (e : ℕ × ℕ). e.0 < e.1) edges

-- a component has an odd cycle exactly where some edge joins two of its numbers that lie as far from one of them
abbrev pub LevelsShowOddCycles : Type 0
LevelsShowOddCycles = (edges : List (ℕ × ℕ)) → AreOrdered edges → (root : ℕ) → HasOddCycleAt (graph_of edges) root ↔ HasLevelEdge (graph_of edges) root

-- a graph has an odd cycle exactly where some edge is level below the least number of its component
abbrev pub RootsShowOddCycles : Type 0
RootsShowOddCycles = (edges : List (ℕ × ℕ)) → AreOrdered edges → HasOddCycle (graph_of edges)
    ↔ ((root : ℕ) × IsRoot (graph_of edges) root root × HasLevelEdge (graph_of edges) root)

-- the root of the reported cycle is the least number of its component
abbrev pub OddRootsAreRoots : Type 0
OddRootsAreRoots = (edges : List (ℕ × ℕ)) → AreOrdered edges → (root : ℕ) → IsOddRoot (graph_of edges) root → IsRoot (graph_of edges) root root

-- what is reported is an odd cycle
abbrev pub ReportedIsOdd : Type 0
ReportedIsOdd = (edges : List (ℕ × ℕ)) → AreOrdered edges → (cycle : List ℕ) → IsReported (graph_of edges) cycle → IsOddCycle (graph_of edges) cycle
