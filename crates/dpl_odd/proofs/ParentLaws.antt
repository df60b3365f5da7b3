-- The parents, edge by edge.
use Rattle.std.proofs.Common.{◌≡◌, ◌≢◌, ℕ, ◌+◌, ◌<◌, ◌≤◌, ◌⊎◌, inl, inr, List, ◌++◌, take, drop, length, set, get_or, sym, refl, ap, subst, ◌∙◌, arith}
use Rattle.std.proofs.lemmas.Bool.{cases_eq}
use Rattle.std.proofs.lemmas.List.{get_or_default, length-set, get_or-set_same, get_or-set_other, take-append-le, take_all}
use Rattle.dpl_spec_split.specs.Graphs.{Graph, graph_of}
use Rattle.dpl_odd.specs.Paths.{edge_at, AreLowest, IsLowered, stays, falls}

-- a graph with an edge from child to other more
abbrev pub with_arc : Graph → ℕ → ℕ → Graph
with_arc joined child other u v = joined u v ⊎ ((u ≡ child) × (v ≡ other))

arc_stays : (joined : Graph) (n : ℕ) (levels : List ℕ) (child other : ℕ) (old : List ℕ) → AreLowest joined n levels old
    → (get_or levels other 0 < get_or levels child 0 → get_or old child 0 ≤ other) → AreLowest (with_arc joined child other) n levels old
arc_stays joined n levels child other old h low = record {
  as_many = h.as_many;
  least = λ u v l arc down. elim arc [
    | inl e ↦ h.least u v l e down
    | inr (a, b) ↦
        let down_too : get_or levels other 0 < get_or levels child 0 = let f : get_or levels v 0 ≡ get_or levels other 0 = ap
        (λ x. get_or levels x 0) b in let g : get_or levels u 0 ≡ get_or levels child 0 = ap (λ x. get_or levels x 0) a in
        omega (arith, f, g, down) in
        let same : get_or old u 0 ≡ get_or old child 0 = ap (λ x. get_or old x 0) a in
        let m = low down_too in
        omega (arith, same, b, m)
  ];
  found = λ u l. elim (h.found u l) [
    | inl none ↦ inl none
    | inr (e, down) ↦ inr (inl e, down)
  ];
}

arc_falls : (joined : Graph) (n : ℕ) (levels : List ℕ) (child other : ℕ) (old new : List ℕ) → AreLowest joined n levels old → child < n
    → new ≡ set old child other → get_or levels other 0 < get_or levels child 0 → other < get_or old child 0
    → AreLowest (with_arc joined child other) n levels new
arc_falls joined n levels child other old new h child_in is down less =
    let as_many = h.as_many in
    let at : get_or new child 0 ≡ other = ap (λ xs. get_or xs child 0) is ∙ get_or-set_same old child other 0 (omega (arith, as_many, child_in)) in
    let beside : (u : ℕ) → u ≢ child → get_or new u 0 ≡ get_or old u 0 = λ u ne. ap (λ xs. get_or xs u 0) is ∙ get_or-set_other old child u other 0 ne in
    record {
      as_many = ap (λ xs. let ys : List ℕ = xs in length ys) is ∙ (length-set old child other ∙ as_many);
      least = λ u v l arc lower. elim (cases_eq u child) [
        | inl a ↦
            let same : get_or new u 0 ≡ other = ap (λ x. get_or new x 0) a ∙ at in
            elim arc [
              | inl e ↦ let m = h.least u v l e lower in let f : get_or old u 0 ≡ get_or old child 0 = ap (λ x. get_or old x 0) a in omega (arith, same, m, f, less)
              | inr (b, c) ↦ omega (arith, same, c)
            ]
        | inr ne ↦
            let same = beside u ne in
            elim arc [
              | inl e ↦ let m = h.least u v l e lower in omega (arith, same, m)
              | inr (b, c) ↦ absurd (ne b)
            ]
      ];
      found = λ u l. elim (cases_eq u child) [
        | inl a ↦
            let same : other ≡ get_or new u 0 = sym (ap (λ x. get_or new x 0) a ∙ at) in
            let f : get_or levels u 0 ≡ get_or levels child 0 = ap (λ x. get_or levels x 0) a in
            let lower : get_or levels other 0 < get_or levels u 0 = omega (arith, f, down) in
            inr (subst (λ p. with_arc joined child other u p × (get_or levels p 0 < get_or levels u 0)) same (inr (a, refl), lower))
        | inr ne ↦
            let same : get_or old u 0 ≡ get_or new u 0 = sym (beside u ne) in
            elim (h.found u l) [
              | inl none ↦ inl (sym same ∙ none)
              | inr (e, lower) ↦ inr (subst (λ p. with_arc joined child other u p × (get_or levels p 0 < get_or levels u 0)) same (inl e, lower))
            ]
      ];
    }

pub arc-lowered : (joined : Graph) (n : ℕ) (levels : List ℕ) (child other : ℕ) (old new : List ℕ) → AreLowest joined n levels old
    → child < n → IsLowered levels child other old new → AreLowest (with_arc joined child other) n levels new
arc-lowered joined n levels child other old new h child_in (stays is low) = subst
    (λ xs. AreLowest (with_arc joined child other) n levels xs) (sym is) (arc_stays joined n levels child other old h low)
arc-lowered joined n levels child other old new h child_in (falls is down less) = arc_falls joined n levels child other old new h child_in is down less

pub lowered-length : (levels : List ℕ) (child other : ℕ) (old new : List ℕ) → IsLowered levels child other old new → length new ≡ length old
lowered-length levels child other old new (stays is low) = ap (λ xs. let ys : List ℕ = xs in length ys) is
lowered-length levels child other old new (falls is down less) = ap (λ xs. let ys : List ℕ = xs in length ys) is ∙ length-set old child other

pub lowest-as : (joined same : Graph) (n : ℕ) (levels parents : List ℕ) → ((u v : ℕ) → joined u v → same u v)
    → ((u v : ℕ) → same u v → joined u v) → AreLowest joined n levels parents → AreLowest same n levels parents
lowest-as joined same n levels parents into back h = record {
  as_many = h.as_many;
  least = λ u v l e down. h.least u v l (back u v e) down;
  found = λ u l. elim (h.found u l) [
    | inl none ↦ inl none
    | inr (e, down) ↦ inr (into u _ e, down)
  ];
}

-- the graph of the first so many edges
abbrev pub first_edges : List (ℕ × ℕ) → ℕ → Graph
first_edges edges n u v = (k : ℕ) × (k < n) × ((edge_at edges k ≡ (u, v)) ⊎ (edge_at edges k ≡ (v, u)))

more_edges : (edges : List (ℕ × ℕ)) (i a b : ℕ) → edge_at edges i ≡ (a, b) → (u v : ℕ) → with_arc (with_arc (first_edges edges i) a b) b a u v → first_edges edges (i + 1) u v
more_edges edges i a b is u v (inl (inl (k, l, e))) = (k, omega (arith, l), e)
more_edges edges i a b is u v (inl (inr (p, q))) = (i, omega arith, inl (is ∙ (let e : (a, b) ≡ (u, v) = cc in e)))
more_edges edges i a b is u v (inr (p, q)) = (i, omega arith, inr (is ∙ (let e : (a, b) ≡ (v, u) = cc in e)))

fewer_edges : (edges : List (ℕ × ℕ)) (i a b : ℕ) → edge_at edges i ≡ (a, b) → (u v : ℕ) → first_edges edges (i + 1) u v → with_arc (with_arc (first_edges edges i) a b) b a u v
fewer_edges edges i a b is u v (k, l, e) = elim (cases_eq k i) [
  | inr ne ↦ inl (inl (k, omega (arith, l, ne), e))
  | inl same ↦
      let at : edge_at edges k ≡ (a, b) = ap (λ j. edge_at edges j) same ∙ is in
      elim e [
        | inl f ↦ let g : (u, v) ≡ (a, b) = sym f ∙ at in inl (inr (ap (λ (x : ℕ × ℕ). x.0) g, ap (λ (x : ℕ × ℕ). x.1) g))
        | inr f ↦ let g : (v, u) ≡ (a, b) = sym f ∙ at in inr (ap (λ (x : ℕ × ℕ). x.1) g, ap (λ (x : ℕ × ℕ). x.0) g)
      ]
]

pub lowest-step : (edges : List (ℕ × ℕ)) (n i a b : ℕ) (levels old mid new : List ℕ) → edge_at edges i ≡ (a, b) → a < n → b < n
    → AreLowest (first_edges edges i) n levels old → IsLowered levels a b old mid → IsLowered levels b a mid new
    → AreLowest (first_edges edges (i + 1)) n levels new
lowest-step edges n i a b levels old mid new is a_in b_in h first second =
    lowest-as (with_arc (with_arc (first_edges edges i) a b) b a) (first_edges edges (i + 1)) n levels new (more_edges edges i a b is) (fewer_edges edges i a b is)
    (arc-lowered (with_arc (first_edges edges i) a b) n levels b a mid new (arc-lowered (first_edges edges i) n levels a b old mid h a_in first) b_in second)

into_graph : (edges : List (ℕ × ℕ)) (u v : ℕ) → first_edges edges (length edges) u v → graph_of edges u v
into_graph edges u v (k, l, inl e) = inl (k, l, get_or_default edges k (u, v) (0, 0) l ∙ e)
into_graph edges u v (k, l, inr e) = inr (k, l, get_or_default edges k (v, u) (0, 0) l ∙ e)

from_graph : (edges : List (ℕ × ℕ)) (u v : ℕ) → graph_of edges u v → first_edges edges (length edges) u v
from_graph edges u v (inl (k, l, e)) = (k, l, inl (get_or_default edges k (0, 0) (u, v) l ∙ e))
from_graph edges u v (inr (k, l, e)) = (k, l, inr (get_or_default edges k (0, 0) (v, u) l ∙ e))

pub lowest-all : (edges : List (ℕ × ℕ)) (n : ℕ) (levels parents : List ℕ) → AreLowest (first_edges edges (length edges)) n levels parents
    → AreLowest (graph_of edges) n levels parents
lowest-all edges n levels parents h = lowest-as (first_edges edges (length edges)) (graph_of edges) n levels parents (into_graph edges) (from_graph edges) h

-- a slice of all items, put back
pub all-back : (new old : List ℕ) (n : ℕ) → length new ≡ n → take n (new ++ drop (length new) old) ≡ new
all-back new old n is = take-append-le n new (drop (length new) old) (omega (arith, is)) ∙ take_all n new (omega (arith, is))
