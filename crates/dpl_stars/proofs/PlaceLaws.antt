-- Touched numbers, and edges by their places.
use Rattle.std.proofs.Common.{◌≡◌, ℕ, zero, suc, ◌+◌, ◌<◌, ◌≤◌, ◌⊎◌, inl, inr, Err, List, [], ◌∷◌, ◌++◌, map, length, get_or, take, sym, refl, ap, ◌∙◌, subst, arith}
use Rattle.std.specs.Ordering.{nat_cmp}
use Rattle.std.specs.List.{All, AllPairs, Contains}
use Rattle.std.specs.List.Sorted.{IsBinarySearchResult}
use Rattle.std.proofs.lemmas.Bool.{cases_lt, cases_order}
use Rattle.std.proofs.lemmas.List.{get_or_default, map_push, take_more, append_assoc}
use Rattle.std.proofs.lemmas.List.Concat.{flat_map-append}
use Rattle.std.proofs.lemmas.List.Elements.{All-nil, All-push}
use Rattle.std.proofs.lemmas.List.Sorted.{searched}
use Rattle.dpl_spec_split.specs.Graphs.{graph_of}
use Rattle.dpl_stars.specs.Places.{ends_of, edge_at, ArePlaced}

-- the first element, or a later one
pub contains_cases : {X : Type 0} (x : X) (xs : List X) (v : X) → Contains (x ∷ xs) v → (x ≡ v) ⊎ Contains xs v
contains_cases x xs v (zero, l, e) = inl e
contains_cases x xs v (suc k, l, e) = inr (k, omega (arith, l), e)

pub contains_first : {X : Type 0} (x : X) (xs : List X) → Contains (x ∷ xs) x
contains_first x xs = (0, omega arith, refl)

pub contains_later : {X : Type 0} (x : X) (xs : List X) (v : X) → Contains xs v → Contains (x ∷ xs) v
contains_later x xs v (k, l, e) = (suc k, omega (arith, l), e)

graph-more : (e : ℕ × ℕ) (es : List (ℕ × ℕ)) (u v : ℕ) → graph_of es u v → graph_of (e ∷ es) u v
graph-more e es u v (inl h) = inl (contains_later e es (u, v) h)
graph-more e es u v (inr h) = inr (contains_later e es (v, u) h)

-- an end of an edge is joined to its other end
pub joined-end : (es : List (ℕ × ℕ)) (v : ℕ) → Contains (ends_of es) v → (u : ℕ) × graph_of es v u
joined-end [] v (k, l, e) = absurd (omega (arith, l))
joined-end (e ∷ es) v h = elim (contains_cases e.0 (e.1 ∷ ends_of es) v h) [
  | inl first ↦ (e.1, inl (subst (λ x. Contains (e ∷ es) (x, e.1)) first (contains_first e es)))
  | inr more ↦ elim (contains_cases e.1 (ends_of es) v more) [
    | inl second ↦ (e.0, inr (subst (λ x. Contains (e ∷ es) (e.0, x)) second (contains_first e es)))
    | inr rest ↦ (let (u, g) = joined-end es v rest in (u, graph-more e es v u g))
  ]
]

first-end : (es : List (ℕ × ℕ)) (u v : ℕ) → Contains es (u, v) → Contains (ends_of es) u
first-end [] u v (k, l, e) = absurd (omega (arith, l))
first-end (e ∷ es) u v h = elim (contains_cases e es (u, v) h) [
  | inl same ↦ subst (λ x. Contains (e.0 ∷ e.1 ∷ ends_of es) x) (ap (λ (f : ℕ × ℕ). f.0) same) (contains_first e.0 (e.1 ∷ ends_of es))
  | inr rest ↦ contains_later e.0 (e.1 ∷ ends_of es) u (contains_later e.1 (ends_of es) u (first-end es u v rest))
]

second-end : (es : List (ℕ × ℕ)) (u v : ℕ) → Contains es (u, v) → Contains (ends_of es) v
second-end [] u v (k, l, e) = absurd (omega (arith, l))
second-end (e ∷ es) u v h = elim (contains_cases e es (u, v) h) [
  | inl same ↦ subst (λ x. Contains (e.0 ∷ e.1 ∷ ends_of es) x) (ap (λ (f : ℕ × ℕ). f.1) same) (contains_later e.0 (e.1 ∷ ends_of es) e.1 (contains_first e.1 (ends_of es)))
  | inr rest ↦ contains_later e.0 (e.1 ∷ ends_of es) v (contains_later e.1 (ends_of es) v (second-end es u v rest))
]

-- what is joined to some number is an end of an edge
pub end-joined : (es : List (ℕ × ℕ)) (v u : ℕ) → graph_of es v u → Contains (ends_of es) v
end-joined es v u (inl h) = first-end es v u h
end-joined es v u (inr h) = second-end es u v h

pub ends-more : (es : List (ℕ × ℕ)) (i : ℕ) (d : ℕ × ℕ) → i < length es → ends_of (take (i + 1) es) ≡ (ends_of (take i es) ++ (get_or es i d).0 ∷ []) ++ (get_or es i d).1 ∷ []
ends-more es i d l =
    ap ends_of (take_more es i d l)
    ∙ (flat_map-append (λ (e : ℕ × ℕ). e.0 ∷ e.1 ∷ []) (take i es) (get_or es i d ∷ [])
    ∙ sym (append_assoc (ends_of (take i es)) ((get_or es i d).0 ∷ []) ((get_or es i d).1 ∷ [])))

module _ (numbers : List ℕ) (rising : AllPairs (λ a b. a < b) numbers) where
  pub numbers-rise : (i j : ℕ) → i ≤ j → j < length numbers → get_or numbers i 0 ≤ get_or numbers j 0
  numbers-rise i j l within = elim (cases_lt i j) [
    | inl less ↦ (let r = rising i j 0 less within in omega (arith, r))
    | inr more ↦ (let e : get_or numbers i 0 ≡ get_or numbers j 0 = ap (λ k. get_or numbers k 0) (let same : i ≡ j = omega (arith, l, more) in same) in omega (arith, e))
  ]

  -- places go as their numbers
  pub places-rise : (i j : ℕ) → i < length numbers → j < length numbers → get_or numbers i 0 < get_or numbers j 0 → i < j
  places-rise i j i_in j_in l = elim (cases_lt i j) [
    | inl less ↦ less
    | inr more ↦ (let r = numbers-rise j i more i_in in omega (arith, l, r))
  ]

  pub place-unique : (i j : ℕ) → i < length numbers → j < length numbers → get_or numbers i 0 ≡ get_or numbers j 0 → i ≡ j
  place-unique i j i_in j_in e = elim (cases_order i j) [
    | inl same ↦ same
    | inr apart ↦ elim apart [
      | inl l ↦ (let r = rising i j 0 l j_in in absurd (omega (arith, r, e)))
      | inr l ↦ (let r = rising j i 0 l i_in in absurd (omega (arith, r, e)))
    ]
  ]

  -- a search doesn't miss a number that is there
  pub not-missed : (v k : ℕ) → Contains numbers v → IsBinarySearchResult (λ y. nat_cmp y v) numbers (Err k) → ⊥
  not-missed v k (i, within, e) h =
      let (le, before, after) = searched numbers v (Err k) h numbers-rise in
      let is : get_or numbers i 0 ≡ v = get_or_default numbers i 0 v within ∙ e in
      elim (cases_lt i k) [
        | inl l ↦ (let b = before i l in omega (arith, b, is))
        | inr l ↦ (let a = after i l within in omega (arith, a, is))
      ]

  pub placed-more : (prefix placed : List (ℕ × ℕ)) (e : ℕ × ℕ) (i j : ℕ) → ArePlaced numbers prefix placed → e.0 < e.1 → i < length numbers
      → j < length numbers → get_or numbers i 0 ≡ e.0 → get_or numbers j 0 ≡ e.1 → ArePlaced numbers (prefix ++ e ∷ []) (placed ++ (i, j) ∷ [])
  placed-more prefix placed e i j h up i_in j_in first second = record {
    is = ap (λ es. es ++ e ∷ []) h.is
        ∙ (ap (λ (f : ℕ × ℕ). map (edge_at numbers) placed ++ f ∷ []) (let same : e ≡ edge_at numbers (i, j) = λ k. (sym first k, sym second k) in same)
        ∙ sym (map_push (edge_at numbers) placed (i, j)));
    below = All-push (λ (f : ℕ × ℕ). (f.0 < f.1) × (f.1 < length numbers)) placed (i, j) h.below (places-rise i j i_in j_in (omega (arith, up, first, second)), j_in);
  }

pub placed-none : (numbers : List ℕ) → ArePlaced numbers [] []
placed-none numbers = record { is = refl; below = All-nil (λ (f : ℕ × ℕ). (f.0 < f.1) × (f.1 < length numbers)) }

pub placed-next : (numbers : List ℕ) (edges placed : List (ℕ × ℕ)) (k i j : ℕ) (d : ℕ × ℕ) → AllPairs (λ a b. a < b) numbers
    → k < length edges → ArePlaced numbers (take k edges) placed → All (λ (e : ℕ × ℕ). e.0 < e.1) edges → i < length numbers
    → j < length numbers → get_or numbers i 0 ≡ (get_or edges k d).0 → get_or numbers j 0 ≡ (get_or edges k d).1
    → ArePlaced numbers (take (k + 1) edges) (placed ++ (i, j) ∷ [])
placed-next numbers edges placed k i j d rising within h pairs i_in j_in first second =
    subst (λ es. ArePlaced numbers es (placed ++ (i, j) ∷ [])) (sym (take_more edges k d within))
    (placed-more numbers rising (take k edges) placed (get_or edges k d) i j h (pairs k d within) i_in j_in first second)
