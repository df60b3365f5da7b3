-- The arcs of a graph, and their chains.
use Rattle.std.proofs.Common.{◌≡◌, ◌≢◌, ℕ, ◌+◌, ◌-◌, ◌<◌, inl, inr, List, [], ◌∷◌, ◌++◌, map, replicate, length, length-append, set, get_or, sym, ap, subst, ◌∙◌, arith}
use Rattle.std.specs.List.{Contains}
use Rattle.std.proofs.lemmas.Bool.{cases_eq, cases_lt}
use Rattle.std.proofs.lemmas.List.{get_or_default, get_or-map, length-set, get_or_append_left, get_or-append-add, get_or_push}
use Rattle.std.proofs.lemmas.List.{get_or-set_same, get_or-set_other, get_or-replicate, length-replicate}
use Rattle.std.proofs.lemmas.List.Elements.{All-contains}
use Rattle.dpl_spec_split.specs.Graphs.{graph_of}
use Rattle.dpl_stars.specs.Levels.{AreEdgesBelow}
use Rattle.dpl_stars.specs.Laws.{AreOrdered}
use Rattle.dpl_stars.specs.Arcs.{swapped, arc_at, IsLastArc, AreChains}

pub below-ordered : (n : ℕ) (edges : List (ℕ × ℕ)) → AreEdgesBelow n edges → AreOrdered edges
below-ordered n edges b k d l = (b k d l).0

arc_there : (edges : List (ℕ × ℕ)) (k : ℕ) → k < length edges → arc_at edges k ≡ get_or edges k (0, 0)
arc_there edges k l = get_or_append_left edges (map swapped edges) (0, 0) k l

arc_back : (edges : List (ℕ × ℕ)) (k : ℕ) → k < length edges → arc_at edges (length edges + k) ≡ swapped (get_or edges k (0, 0))
arc_back edges k l = get_or-append-add edges (map swapped edges) k (0, 0) ∙ get_or-map swapped edges k (0, 0) (0, 0) l

-- each arc lies on an edge
pub arc-joined : (edges : List (ℕ × ℕ)) (k : ℕ) → k < length edges + length edges → graph_of edges (arc_at edges k).0 (arc_at edges k).1
arc-joined edges k l = elim (cases_lt k (length edges)) [
  | inl low ↦
      let e : ℕ × ℕ = get_or edges k (0, 0) in
      let is : arc_at edges k ≡ e = arc_there edges k low in
      let h : Contains edges e = (k, low, get_or_default edges k e (0, 0) low) in
      subst (λ (a : ℕ × ℕ). graph_of edges a.0 a.1) (sym is) (inl h)
  | inr high ↦
      let j : ℕ = k - length edges in
      let j_in : j < length edges = omega arith in
      let e : ℕ × ℕ = get_or edges j (0, 0) in
      let at : length edges + j ≡ k = omega arith in
      let is : arc_at edges k ≡ swapped e = ap (λ i. arc_at edges i) (sym at) ∙ arc_back edges j j_in in
      let h : Contains edges e = (j, j_in, get_or_default edges j e (0, 0) j_in) in
      subst (λ (a : ℕ × ℕ). graph_of edges a.0 a.1) (sym is) (inr h)
]

-- each edge has its arc
pub arc-of : (edges : List (ℕ × ℕ)) (u v : ℕ) → graph_of edges u v → (k : ℕ) × (k < length edges + length edges) × (arc_at edges k ≡ (u, v))
arc-of edges u v (inl (k, l, is)) = (k, omega arith, arc_there edges k l ∙ (get_or_default edges k (0, 0) (u, v) l ∙ is))
arc-of edges u v (inr (k, l, is)) =
    let e : get_or edges k (0, 0) ≡ (v, u) = get_or_default edges k (0, 0) (v, u) l ∙ is in
    (length edges + k, omega arith, arc_back edges k l ∙ ap swapped e)

pub edge-below : (n : ℕ) (edges : List (ℕ × ℕ)) → AreEdgesBelow n edges → (u v : ℕ) → graph_of edges u v → (u < n) × (v < n)
edge-below n edges b u v (inl h) = let (o, l) = All-contains (λ (e : ℕ × ℕ). (e.0 < e.1) × (e.1 < n)) edges (u, v) b h in (omega (arith, o, l), l)
edge-below n edges b u v (inr h) = let (o, l) = All-contains (λ (e : ℕ × ℕ). (e.0 < e.1) × (e.1 < n)) edges (v, u) b h in (l, omega (arith, o, l))

pub arc-below : (n : ℕ) (edges : List (ℕ × ℕ)) → AreEdgesBelow n edges → (k : ℕ) → k < length edges + length edges → ((arc_at edges k).0 < n) × ((arc_at edges k).1 < n)
arc-below n edges b k l = edge-below n edges b (arc_at edges k).0 (arc_at edges k).1 (arc-joined edges k l)

pub chains-none : (edges : List (ℕ × ℕ)) (n : ℕ) (last before : List ℕ) → last ≡ replicate n 0 → before ≡ [] → AreChains edges n 0 last before
chains-none edges n last before is none = record {
  as_many = ap (λ xs. let ys : List ℕ = xs in length ys) is ∙ length-replicate n 0;
  as_many_arcs = ap (λ xs. let ys : List ℕ = xs in length ys) none;
  heads = λ v l.
      let zero_at : get_or last v 0 ≡ 0 = ap (λ xs. get_or xs v 0) is ∙ get_or-replicate n v 0 0 l in
      record { none = λ k a b. absurd (omega (arith, b)); within = omega (arith, zero_at); leaves = λ k e. absurd (omega (arith, zero_at, e)) };
  chains = λ k l. absurd (omega (arith, l));
}

head_step : (edges : List (ℕ × ℕ)) (b v from p q : ℕ) → (arc_at edges b).0 ≡ from → IsLastArc edges v b p → (v ≡ from → q ≡ b + 1)
    → (v ≢ from → q ≡ p) → IsLastArc edges v (b + 1) q
head_step edges b v from p q at h same other = elim (cases_eq v from) [
  | inl e ↦
      let is = same e in
      record {
        none = λ k l m. absurd (omega (arith, is, l, m));
        within = omega (arith, is);
        leaves = λ k f.
            (let one : k ≡ b = omega (arith, is, f) in ap (λ j. (arc_at edges j).0) one ∙ (at ∙ sym e));
      }
  | inr ne ↦
      let is = other ne in
      let within = h.within in
      record {
        none = λ k l m. elim (cases_eq k b) [
          | inl one ↦ λ f. ne (sym f ∙ (ap (λ j. (arc_at edges j).0) one ∙ at))
          | inr less ↦ h.none k (omega (arith, is, l)) (omega (arith, m, less))
        ];
        within = omega (arith, is, within);
        leaves = λ k f. h.leaves k (sym is ∙ f);
      }
]

pub chains-step : (edges : List (ℕ × ℕ)) (n b from : ℕ) (last before last' before' : List ℕ) → AreChains edges n b last before → (arc_at edges b).0 ≡ from → from < n
    → last' ≡ set last from (b + 1) → before' ≡ before ++ get_or last from 0 ∷ [] → AreChains edges n (b + 1) last' before'
chains-step edges n b from last before last' before' h at from_in last_is before_is =
    let as_many = h.as_many in
    let as_many_arcs = h.as_many_arcs in
    record {
      as_many = ap (λ xs. let ys : List ℕ = xs in length ys) last_is ∙ (length-set last from (b + 1) ∙ as_many);
      as_many_arcs = ap (λ xs. let ys : List ℕ = xs in length ys) before_is ∙ (length-append before (get_or last from 0 ∷ []) ∙ omega (arith, as_many_arcs));
      heads = λ v l. head_step edges b v from (get_or last v 0) (get_or last' v 0) at (h.heads v l)
          (λ e. ap (λ xs. get_or xs v 0) last_is ∙ (ap (λ w. get_or (set last from (b + 1)) w 0) e ∙ get_or-set_same last from (b + 1) 0 (omega (arith, from_in, as_many))))
          (λ ne. ap (λ xs. get_or xs v 0) last_is ∙ get_or-set_other last from v (b + 1) 0 ne);
      chains = λ k l. elim (cases_eq k b) [
        | inl same ↦
            let is : get_or before' k 0 ≡ get_or last from 0 = ap (λ xs. get_or xs k 0) before_is ∙ get_or_push before (get_or last from 0) 0 k (as_many_arcs ∙ sym same) in
            subst (λ p. IsLastArc edges (arc_at edges k).0 k p) (sym is)
            (subst (λ j. IsLastArc edges (arc_at edges j).0 j (get_or last from 0)) (sym same)
            (subst (λ w. IsLastArc edges w b (get_or last from 0)) (sym at) (h.heads from from_in)))
        | inr ne ↦
            let small : k < length before = omega (arith, l, ne, as_many_arcs) in
            let is : get_or before' k 0 ≡ get_or before k 0 = ap (λ xs. get_or xs k 0) before_is ∙ get_or_append_left before (get_or last from 0 ∷ []) 0 k small in
            subst (λ p. IsLastArc edges (arc_at edges k).0 k p) (sym is) (h.chains k (omega (arith, l, ne)))
      ];
    }
