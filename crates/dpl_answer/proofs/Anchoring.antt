-- The edges of the graph with anchors: those of the marks, and then those of pieces by their vertices.
use Rattle.std.proofs.Common.{◌≡◌, ◌≢◌, ℕ, ◌+◌, ◌<◌, inl, inr, List, ◌++◌, length, get_or, sym, ap, ◌∙◌, subst, arith}
use Rattle.std.specs.Prelude.{Option, Some, None}
use Rattle.std.specs.List.{AllPairs, Contains}
use Rattle.std.proofs.lemmas.List.{get_or-map, length-map}
use Rattle.std.proofs.lemmas.List.Elements.{Contains-append_cases, Contains-append_left, Contains-append_right, Contains-get_or}
use Rattle.dpl_spec_split.specs.declared.Spacing.{Spacing}
use Rattle.dpl_spec_split.specs.declared.Rect.{Rect}
use Rattle.dpl_spec_split.specs.Pieces.{Conflict}
use Rattle.dpl_spec_split.specs.Graphs.{AreEdges, Graph, Precedes}
use Rattle.dpl_spec_split.specs.Marks.{Marks, MarkEdge, Anchored, anchors, fixed_to_a, fixed_to_b, conflict, up, down, graph, vertex}
use Rattle.dpl_spec_split.proofs.Ordered.{has-map, map-has}
use Rattle.dpl_spec_split.proofs.SquareLaws.{AreNear-sym}
use Rattle.dpl_stars.specs.Sums.{AreEdgePairs}
use Rattle.dpl_slabs.proofs.StripLaws.{AllPairs-append}
use Rattle.dpl_answer.specs.Anchors.{AreMarkEdges, moved, with_marks}

abbrev by_two : ℕ × ℕ → ℕ × ℕ
by_two e = (e.0 + 2, e.1 + 2)

-- ---- edges of pieces by their vertices

pub moved-has : (edges : List (ℕ × ℕ)) (i j u v : ℕ) → Contains edges (i, j) → u ≡ i + 2 → v ≡ j + 2 → Contains (moved edges) (u, v)
moved-has edges i j u v c x y = map-has by_two edges (i, j) (u, v) c (sym (ap (λ n. (n, v)) x ∙ ap (λ n. (i + 2, n)) y))

pub has-moved : (edges : List (ℕ × ℕ)) (u v : ℕ) → Contains (moved edges) (u, v) → (e : ℕ × ℕ) × Contains edges e × (u ≡ e.0 + 2) × (v ≡ e.1 + 2)
has-moved edges u v c =
    let (e, e_in, is) = has-map by_two edges (u, v) c in
    (e, e_in, sym (ap (λ p. let q : ℕ × ℕ = p in q.0) is), sym (ap (λ p. let q : ℕ × ℕ = p in q.1) is))

raised : (e f : ℕ × ℕ) → Precedes e f → Precedes (by_two e) (by_two f)
raised e f (inl l) = inl (omega (arith, l))
raised e f (inr (same, l)) = inr (ap (λ n. n + 2) same, omega (arith, l))

moved-ordered : (edges : List (ℕ × ℕ)) → AllPairs Precedes edges → AllPairs Precedes (moved edges)
moved-ordered edges all i j d l j_in =
    let many : length (moved edges) ≡ length edges = length-map edges by_two in
    let j_here : j < length edges = omega (arith, j_in, many) in
    let i_here : i < length edges = omega (arith, j_here, l) in
    let first = get_or-map by_two edges i (0, 0) d i_here in
    let second = get_or-map by_two edges j (0, 0) d j_here in
    subst (λ (x : ℕ × ℕ). Precedes x (get_or (moved edges) j d)) (sym first)
    (subst (λ (y : ℕ × ℕ). Precedes (by_two (get_or edges i (0, 0))) y) (sym second) (raised (get_or edges i (0, 0)) (get_or edges j (0, 0)) (all i j (0, 0) l j_here)))

-- ---- edges of marks

marked-rise : (m : Marks) (pieces : List (List Rect)) (u v : ℕ) → MarkEdge m pieces u v → u < v
marked-rise m pieces u v (anchors x y) = omega (arith, x, y)
marked-rise m pieces u v (fixed_to_b k k_in some x y) = omega (arith, x, y)
marked-rise m pieces u v (fixed_to_a k k_in some x y) = omega (arith, x, y)

marked-low : (m : Marks) (pieces : List (List Rect)) (u v : ℕ) → MarkEdge m pieces u v → u < 2
marked-low m pieces u v (anchors x y) = omega (arith, x)
marked-low m pieces u v (fixed_to_b k k_in some x y) = omega (arith, x)
marked-low m pieces u v (fixed_to_a k k_in some x y) = omega (arith, x)

marked-known : (m : Marks) (pieces : List (List Rect)) (u v : ℕ) → MarkEdge m pieces u v → v < length pieces + 2
marked-known m pieces u v (anchors x y) = omega (arith, y)
marked-known m pieces u v (fixed_to_b k k_in some x y) = omega (arith, y, k_in)
marked-known m pieces u v (fixed_to_a k k_in some x y) = omega (arith, y, k_in)

-- ---- the graph

conflict-back : (spacing : Spacing) (pieces : List (List Rect)) (owners : List ℕ) (i j : ℕ) → Conflict spacing pieces owners i j → Conflict spacing pieces owners j i
conflict-back spacing pieces owners i j c = record { first = c.second; second = c.first; apart = λ e. c.apart (sym e); near = AreNear-sym spacing _ _ c.near }

conflict-apart : (spacing : Spacing) (pieces : List (List Rect)) (owners : List ℕ) (i j : ℕ) → Conflict spacing pieces owners i j → i ≢ j
conflict-apart spacing pieces owners i j c e = c.apart (ap (λ k. get_or owners k 0) e)

-- what is joined is joined both ways
pub graph-back : (marks : Option Marks) (spacing : Spacing) (pieces : List (List Rect)) (owners : List ℕ) (u v : ℕ) → graph marks spacing pieces owners u v → graph marks spacing pieces owners v u
graph-back None spacing pieces owners u v c = conflict-back spacing pieces owners u v c
graph-back (Some m) spacing pieces owners u v (conflict i j c x y) = conflict j i (conflict-back spacing pieces owners i j c) y x
graph-back (Some m) spacing pieces owners u v (up e) = down e
graph-back (Some m) spacing pieces owners u v (down e) = up e

-- and no vertex is joined to itself
pub graph-apart : (marks : Option Marks) (spacing : Spacing) (pieces : List (List Rect)) (owners : List ℕ) (u v : ℕ) → graph marks spacing pieces owners u v → u ≢ v
graph-apart None spacing pieces owners u v c = conflict-apart spacing pieces owners u v c
graph-apart (Some m) spacing pieces owners u v (conflict i j c x y) = λ e. conflict-apart spacing pieces owners i j c (omega (arith, x, y, e))
graph-apart (Some m) spacing pieces owners u v (up h) = let l = marked-rise m pieces u v h in λ e. omega (arith, l, e)
graph-apart (Some m) spacing pieces owners u v (down h) = let l = marked-rise m pieces v u h in λ e. omega (arith, l, e)

-- what is joined are vertices
pub graph-known : (marks : Option Marks) (spacing : Spacing) (pieces : List (List Rect)) (owners : List ℕ) (u v : ℕ) → graph marks spacing pieces owners u v → v < vertex marks (length pieces)
graph-known None spacing pieces owners u v c = c.second
graph-known (Some m) spacing pieces owners u v (conflict i j c x y) = let l = c.second in omega (arith, y, l)
graph-known (Some m) spacing pieces owners u v (up h) = marked-known m pieces u v h
graph-known (Some m) spacing pieces owners u v (down h) = let l = marked-low m pieces v u h in omega (arith, l)

module _ (m : Marks) (spacing : Spacing) (pieces : List (List Rect)) (owners : List ℕ) (marked edges : List (ℕ × ℕ))
    (fixed : AreEdges (MarkEdge m pieces) marked) (are : AreEdges (Conflict spacing pieces owners) edges) where
  anchored-from : (u v : ℕ) → Contains (marked ++ moved edges) (u, v) → (u < v) × Anchored spacing m pieces owners u v
  anchored-from u v there = elim (Contains-append_cases marked (moved edges) (u, v) there) [
    | inl mark ↦ (let (l, h) = (fixed.exactly u v).0 mark in (l, up h))
    | inr other ↦ (let (e, e_in, x, y) = has-moved edges u v other in
        let (l, c) = (are.exactly e.0 e.1).0 e_in in
        (omega (arith, l, x, y), conflict e.0 e.1 c x y))
  ]

  anchored-to : (u v : ℕ) → u < v → Anchored spacing m pieces owners u v → Contains (marked ++ moved edges) (u, v)
  anchored-to u v l (conflict i j c x y) = Contains-append_right marked (moved edges) (u, v) (moved-has edges i j u v ((are.exactly i j).1 (omega (arith, l, x, y), c)) x y)
  anchored-to u v l (up h) = Contains-append_left marked (moved edges) (u, v) ((fixed.exactly u v).1 (l, h))
  anchored-to u v l (down h) = let other = marked-rise m pieces v u h in absurd (omega (arith, l, other))

  ahead : (e f : ℕ × ℕ) → Contains marked e → Contains (moved edges) f → Precedes e f
  ahead e f e_in f_in =
      let low = marked-low m pieces e.0 e.1 ((fixed.exactly e.0 e.1).0 e_in).1 in
      let (d, d_in, x, y) = has-moved edges f.0 f.1 f_in in
      inl (omega (arith, low, x))

  anchored-listed : AreEdges (Anchored spacing m pieces owners) (marked ++ moved edges)
  anchored-listed = record {
    ordered = AllPairs-append Precedes marked (moved edges) fixed.ordered (moved-ordered edges are.ordered) ahead;
    exactly = λ u v. (anchored-from u v, λ (l, h). anchored-to u v l h);
  }

-- the edges of the marks and those of pieces, by vertices, are the edges of the graph
pub graph-listed : (marks : Option Marks) (spacing : Spacing) (pieces : List (List Rect)) (owners : List ℕ) (marked : Option (List (ℕ × ℕ))) (edges : List (ℕ × ℕ)) → AreMarkEdges marks pieces marked
    → AreEdges (Conflict spacing pieces owners) edges → AreEdges (graph marks spacing pieces owners) (with_marks marked edges)
graph-listed None spacing pieces owners None edges fixed are = are
graph-listed None spacing pieces owners (Some marked) edges fixed are = absurd fixed
graph-listed (Some m) spacing pieces owners None edges fixed are = absurd fixed
graph-listed (Some m) spacing pieces owners (Some marked) edges fixed are = anchored-listed m spacing pieces owners marked edges fixed are

-- the edges of a graph have two different ends, the smaller first
pub listed-pairs : (joined : Graph) (edges : List (ℕ × ℕ)) → AreEdges joined edges → AreEdgePairs edges
listed-pairs joined edges are k d l =
    let e = get_or edges k d in
    ((are.exactly e.0 e.1).0 (Contains-get_or edges k d l)).0
