-- The roots of the graph of conflicts, by its edges.
use Rattle.std.proofs.Common.{◌≡◌, ℕ, ◌<◌, List, length, get_or, sym, ap, ◌∙◌, arith}
use Rattle.std.proofs.lemmas.List.Elements.{Contains-get_or}
use Rattle.dpl_spec_split.specs.declared.Spacing.{Spacing}
use Rattle.dpl_spec_split.specs.declared.Rect.{Rect}
use Rattle.dpl_spec_split.specs.Graphs.{Graph, IsRoot, stay, AreEdges, graph_of}
use Rattle.dpl_spec_split.specs.Pieces.{Conflict}
use Rattle.dpl_spec_split.proofs.SquareLaws.{AreNear-sym}
use Rattle.dpl_stars.specs.Levels.{AreEdgesBelow, AreLevels}
use Rattle.dpl_stars.proofs.SameGraph.{SameEdges, same-back, same-as-listed, walk-along}
use Rattle.dpl_spec_verdict.specs.Gains.{AreRootsOf}

root-along : (joined other : Graph) → SameEdges joined other → (v r : ℕ) → IsRoot joined v r → IsRoot other v r
root-along joined other same v r root = record {
  reached = (root.reached.0, walk-along joined other same root.reached.1);
  least = λ u reach. root.least u (reach.0, walk-along other joined (same-back joined other same) reach.1);
}

conflict-both : (spacing : Spacing) (parts : List (List Rect)) (owners : List ℕ) (i j : ℕ) → Conflict spacing parts owners i j → Conflict spacing parts owners j i
conflict-both spacing parts owners i j c = record { first = c.second; second = c.first; apart = λ e. c.apart (sym e); near = AreNear-sym spacing _ _ c.near }

listed-graph : (spacing : Spacing) (parts : List (List Rect)) (owners : List ℕ) (edges : List (ℕ × ℕ)) → AreEdges (Conflict spacing parts owners) edges
    → SameEdges (Conflict spacing parts owners) (graph_of edges)
listed-graph spacing parts owners edges are =
    same-as-listed (Conflict spacing parts owners) (conflict-both spacing parts owners) (λ u v c e. c.apart (ap (λ (k : ℕ). get_or owners k 0) e)) edges are

pub roots-found : (spacing : Spacing) (parts : List (List Rect)) (owners : List ℕ) (edges : List (ℕ × ℕ)) (count : ℕ) (roots levels : List ℕ) → count ≡ length parts
    → AreEdges (Conflict spacing parts owners) edges → AreLevels edges count roots levels → AreRootsOf spacing parts owners roots
roots-found spacing parts owners edges count roots levels many are l = record {
  each = l.as_many_roots ∙ many;
  rooted = λ v lt.
      root-along (graph_of edges) (Conflict spacing parts owners)
      (same-back (Conflict spacing parts owners) (graph_of edges) (listed-graph spacing parts owners edges are)) v _ (l.root v (rw many lt));
}

-- conflicts are pairs of pieces
pub edges-below : (spacing : Spacing) (parts : List (List Rect)) (owners : List ℕ) (edges : List (ℕ × ℕ)) (count : ℕ) → count ≡ length parts
    → AreEdges (Conflict spacing parts owners) edges → AreEdgesBelow count edges
edges-below spacing parts owners edges count many are k d l =
    let e = get_or edges k d in
    let (less, c) = (are.exactly e.0 e.1).0 (Contains-get_or edges k d l) in
    let second = c.second in
    (less, omega (arith, second, many))

-- the root of a piece is a piece
pub roots-below : (spacing : Spacing) (parts : List (List Rect)) (owners roots : List ℕ) → AreRootsOf spacing parts owners roots → (k : ℕ) → k < length roots
    → get_or roots k 0 < length roots
roots-below spacing parts owners roots are k lt =
    let e = are.each in
    let within : k < length parts = omega (arith, lt, e) in
    let least = (are.rooted k within).least k (0, stay) in
    omega (arith, least, lt)
