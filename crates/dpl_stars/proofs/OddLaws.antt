-- Odd cycles and levels of a graph that is given by its edges.
use Rattle.std.proofs.Common.{ℕ, List, get_or, arith}
use Rattle.dpl_spec_split.specs.Graphs.{stay, IsRoot, graph_of}
use Rattle.dpl_spec_split.specs.Summary.{HasOddCycle}
use Rattle.dpl_stars.specs.Laws.{AreOrdered, HasLevelEdge, HasOddCycleAt, LevelsShowOddCycles, RootsShowOddCycles, OddRootsAreRoots, ReportedIsOdd}
use Rattle.dpl_stars.proofs.Walks.{graph_of-undirected, root-along, Reaches-sym}
use Rattle.dpl_stars.proofs.Parity.{cycle-level, level-at_root}
use Rattle.dpl_stars.proofs.Search.{graph_of-distances, graph_of-root}
use Rattle.dpl_stars.proofs.Forks.{level-cycle, reported-odd}

cycle_at : (edges : List (ℕ × ℕ)) → AreOrdered edges → (root : ℕ) → HasOddCycleAt (graph_of edges) root → HasLevelEdge (graph_of edges) root
cycle_at edges o root (cycle, c, reached) =
    let three = c.three in
    cycle-level (graph_of edges) (graph_of-undirected edges o) root (graph_of-distances edges root) cycle c (reached 0 0 (omega (arith, three)))

pub levels-show : LevelsShowOddCycles
levels-show edges o root = (cycle_at edges o root, level-cycle (graph_of edges) (graph_of-undirected edges o) root)

some_root : (edges : List (ℕ × ℕ)) → AreOrdered edges → HasOddCycle (graph_of edges) → (root : ℕ) × IsRoot (graph_of edges) root root × HasLevelEdge (graph_of edges) root
some_root edges o (cycle, c) =
    let un = graph_of-undirected edges o in
    let (root, is) = graph_of-root edges (get_or cycle 0 0) in (
      root,
      root-along (graph_of edges) un (get_or cycle 0 0) root root (Reaches-sym (graph_of edges) un is.reached) is,
      cycle-level (graph_of edges) un root (graph_of-distances edges root) cycle c is.reached,
    )

some_cycle : (edges : List (ℕ × ℕ)) → AreOrdered edges → (root : ℕ) × IsRoot (graph_of edges) root root × HasLevelEdge (graph_of edges) root → HasOddCycle (graph_of edges)
some_cycle edges o (root, is, h) =
    let (cycle, c, reached) = level-cycle (graph_of edges) (graph_of-undirected edges o) root h in
    (cycle, c)

pub roots-show : RootsShowOddCycles
roots-show edges o = (some_root edges o, some_cycle edges o)

pub odd-roots : OddRootsAreRoots
odd-roots edges o root odd = record {
  reached = (0, stay);
  least = λ u r. let (e, is) = level-at_root (graph_of edges) (graph_of-undirected edges o) u root (graph_of-distances edges u) r odd.has in odd.least u e is;
}

pub reported-is_odd : ReportedIsOdd
reported-is_odd edges o = reported-odd (graph_of edges) (graph_of-undirected edges o)
