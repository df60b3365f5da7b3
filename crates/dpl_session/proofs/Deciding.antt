-- From the edges of a graph to its colours, or to its cycle.
use Rattle.std.proofs.Common.{◌<◌, ℕ, inl, inr, List, length, map, get_or, arith}
use Rattle.std.specs.List.{Contains}
use Rattle.std.proofs.lemmas.Bool.{cases_order}
use Rattle.std.proofs.lemmas.List.{get_or-map, length-map}
use Rattle.std.proofs.lemmas.List.Elements.{All-contains, Contains-get_or}
use Rattle.dpl_spec_split.specs.declared.Spacing.{Spacing}
use Rattle.dpl_spec_split.specs.declared.Rect.{Rect}
use Rattle.dpl_spec_split.specs.Graphs.{Graph, AreEdges, graph_of}
use Rattle.dpl_spec_split.specs.Pieces.{Conflict}
use Rattle.dpl_spec_split.specs.Summary.{HasOddCycle}
use Rattle.dpl_spec_split.proofs.SquareLaws.{AreNear-sym}
use Rattle.dpl_stars.specs.Levels.{AreEdgesBelow}
use Rattle.dpl_stars.specs.declared.list.Star.{Star}
use Rattle.dpl_stars.specs.declared.joined.Joined.{Joined}
use Rattle.dpl_stars.specs.declared.joined.Joined.TheVariants.{Stars, Odd as OddSum}
use Rattle.dpl_stars.specs.Sums.{Sums, row_of}
use Rattle.dpl_orient.specs.Rooted.{ArePiecesBelow}
use Rattle.dpl_orient.specs.Oriented.{IsEvenBelow}
use Rattle.dpl_session.specs.declared.verdict.Verdict.{Verdict}
use Rattle.dpl_session.specs.declared.verdict.Verdict.TheVariants.{Even, Odd}
use Rattle.dpl_session.specs.Answered.{Decides}
use Rattle.dpl_session.proofs.SameGraphs.{SameEdges, odd_same, reported_same, roots_same, same_back}

-- an edge's ends are below n
ends_below : (n : ℕ) (edges : List (ℕ × ℕ)) (u v : ℕ) → AreEdgesBelow n edges → graph_of edges u v → u < n
ends_below n edges u v below (inl c) = let e = All-contains (λ (e : ℕ × ℕ). (e.0 < e.1) × (e.1 < n)) edges (u, v) below c in omega (arith, e.0, e.1)
ends_below n edges u v below (inr c) = let e = All-contains (λ (e : ℕ × ℕ). (e.0 < e.1) × (e.1 < n)) edges (v, u) below c in e.1

-- rows stand for numbers that edges touch
rows_below : (n : ℕ) (edges : List (ℕ × ℕ)) (rows : List Star) → AreEdgesBelow n edges → Sums edges (Stars rows) → ArePiecesBelow n rows
rows_below n edges rows below sums k d h =
    let there : Contains (map row_of rows) (row_of (get_or rows k d)) = (k, rw length-map h, get_or-map row_of rows k d _ h) in
    let touched = ((sums.exactly (row_of (get_or rows k d))).0 there).0 in
    ends_below n edges _ touched.0 below touched.1

-- the summary of edges without an odd cycle
pub even_below : (n : ℕ) (edges : List (ℕ × ℕ)) (j : Joined) → AreEdgesBelow n edges → Sums edges j → ¬ HasOddCycle (graph_of edges) → IsEvenBelow n j
even_below n edges (Stars rows) below sums even = rows_below n edges rows below sums
even_below n edges OddSum below sums even = even sums

-- graphs with the same edges have the same verdicts
pub decides_same : (g h : Graph) (n : ℕ) (sides : List (ℕ × ℕ)) (v : Verdict) → SameEdges g h → Decides g n sides v → Decides h n sides v
decides_same g h n sides (Even colours) same (even, colouring) = (
  λ odd. even (odd_same h g (same_back g h same) odd),
  record { roots = colouring.roots; odds = colouring.odds; rooted = roots_same g h same n colouring.roots colouring.odds colouring.rooted; coloured = colouring.coloured },
)
decides_same g h n sides (Odd cycle) same (odd, reported) = (odd_same g h same odd, reported_same g h same cycle reported)

-- a conflict goes both ways
conflict_back : (spacing : Spacing) (pieces : List (List Rect)) (owners : List ℕ) (u v : ℕ) → Conflict spacing pieces owners u v → Conflict spacing pieces owners v u
conflict_back spacing pieces owners u v c = record { first = c.second; second = c.first; apart = λ e. c.apart (cc); near = AreNear-sym spacing _ _ c.near }

-- the edges have what is joined both ways round
pub same_conflicts : (spacing : Spacing) (pieces : List (List Rect)) (owners : List ℕ) (edges : List (ℕ × ℕ)) → AreEdges (Conflict spacing pieces owners) edges
    → SameEdges (graph_of edges) (Conflict spacing pieces owners)
same_conflicts spacing pieces owners edges are u v = (
  λ joined. elim joined [ inl c ↦ ((are.exactly u v).0 c).1 | inr c ↦ conflict_back spacing pieces owners v u ((are.exactly v u).0 c).1 ],
  λ c. elim (cases_order u v) [
    | inl e ↦ absurd (c.apart (cc))
    | inr other ↦ elim other [
      | inl l ↦ inl ((are.exactly u v).1 (l, c))
      | inr l ↦ inr ((are.exactly v u).1 (l, conflict_back spacing pieces owners u v c))
    ]
  ],
)

pub edges_below : (spacing : Spacing) (pieces : List (List Rect)) (owners : List ℕ) (edges : List (ℕ × ℕ)) → AreEdges (Conflict spacing pieces owners) edges
    → AreEdgesBelow (length pieces) edges
edges_below spacing pieces owners edges are k d k_in =
    let (l, c) = (are.exactly (get_or edges k d).0 (get_or edges k d).1).0 (Contains-get_or edges k d k_in) in (l, c.second)
