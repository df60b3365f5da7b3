-- The distances and the roots of a graph that is given by its edges.
use Rattle.std.proofs.Common.{◌≡◌, ℕ, zero, suc, ◌<◌, ◌≤◌, ◌⊎◌, inl, inr, List, [], ◌∷◌, sym, refl, ap, subst, arith}
use Rattle.std.specs.List.{Contains}
use Rattle.std.proofs.lemmas.Bool.{cases_order, cases_eq}
use Rattle.dpl_spec_split.specs.Graphs.{Walk, stay, step, Reaches, IsRoot, graph_of}
use Rattle.dpl_spec_split.proofs.Ordered.{Contains-head, Contains-later, Contains-cases, Contains-nil}
use Rattle.dpl_stars.proofs.Walks.{Walk-first, Walk-nowhere, Reaches-trans, Reaches-edge}
use Rattle.dpl_stars.proofs.Parity.{HasDistances}

search_pairs : (Q : ℕ × ℕ → Type 0) → ((e : ℕ × ℕ) → Q e ⊎ (Q e → ⊥)) → (es : List (ℕ × ℕ)) → ((e : ℕ × ℕ) × Contains es e × Q e) ⊎ ((e : ℕ × ℕ) → Contains es e → Q e → ⊥)
search_pairs Q decide [] = inr (λ e h q. Contains-nil e h)
search_pairs Q decide (x ∷ es) = elim (decide x) [
  | inl q ↦ inl (x, Contains-head x es, q)
  | inr no_x ↦ elim (search_pairs Q decide es) [
    | inl (e, h, q) ↦ inl (e, Contains-later x e es h, q)
    | inr none ↦ inr (λ e h q. elim (Contains-cases x e es h) [
      | inl same ↦ no_x (subst Q (sym same) q)
      | inr later ↦ none e later q
    ])
  ]
]

-- e joins u to some number of which P holds
Leads : (ℕ → Type 0) → ℕ → ℕ × ℕ → Type 0
Leads P u e = ((e.0 ≡ u) × P e.1) ⊎ ((e.1 ≡ u) × P e.0)

both_or_not : (A B : Type 0) → A ⊎ (A → ⊥) → B ⊎ (B → ⊥) → (A × B) ⊎ ((A × B) → ⊥)
both_or_not A B (inl a) (inl b) = inl (a, b)
both_or_not A B (inl a) (inr b) = inr (λ h. b h.1)
both_or_not A B (inr a) b = inr (λ h. a h.0)

either_or_not : (A B : Type 0) → A ⊎ (A → ⊥) → B ⊎ (B → ⊥) → (A ⊎ B) ⊎ ((A ⊎ B) → ⊥)
either_or_not A B (inl a) b = inl (inl a)
either_or_not A B (inr a) (inl b) = inl (inr b)
either_or_not A B (inr a) (inr b) = inr (λ h. elim h [ inl x ↦ a x | inr y ↦ b y ])

leads_or_not : (P : ℕ → Type 0) → ((w : ℕ) → P w ⊎ (P w → ⊥)) → (u : ℕ) (e : ℕ × ℕ) → Leads P u e ⊎ (Leads P u e → ⊥)
unfolding Leads
leads_or_not P decide u e = either_or_not _ _ (both_or_not _ _ (cases_eq e.0 u) (decide e.1)) (both_or_not _ _ (cases_eq e.1 u) (decide e.0))

neighbour_or_not : (edges : List (ℕ × ℕ)) (P : ℕ → Type 0) → ((w : ℕ) → P w ⊎ (P w → ⊥)) → (u : ℕ) → ((w : ℕ) × graph_of edges u w × P w)
    ⊎ (((w : ℕ) × graph_of edges u w × P w) → ⊥)
unfolding Leads
neighbour_or_not edges P decide u = elim (search_pairs (Leads P u) (leads_or_not P decide u) edges) [
  | inl (e, h, q) ↦ elim q [
    | inl (is, p) ↦ inl (e.1, inl (subst (λ x. Contains edges (x, e.1)) is h), p)
    | inr (is, p) ↦ inl (e.0, inr (subst (λ x. Contains edges (e.0, x)) is h), p)
  ]
  | inr none ↦ inr (λ (w, h, p). elim h [
    | inl k ↦ none (u, w) k (inl (refl, p))
    | inr k ↦ none (w, u) k (inr (refl, p))
  ])
]

walk_or_not : (edges : List (ℕ × ℕ)) (n u v : ℕ) → Walk (graph_of edges) u v n ⊎ (Walk (graph_of edges) u v n → ⊥)
walk_or_not edges zero u v = elim (cases_eq u v) [
  | inl same ↦ inl (subst (λ x. Walk (graph_of edges) u x 0) same stay)
  | inr ne ↦ inr (λ w. ne (Walk-nowhere (graph_of edges) w refl))
]
walk_or_not edges (suc n) u v = elim (neighbour_or_not edges (λ w. Walk (graph_of edges) w v n) (λ w. walk_or_not edges n w v) u) [
  | inl (w, e, rest) ↦ inl (step e rest)
  | inr none ↦ inr (λ w. none (Walk-first (graph_of edges) n w refl))
]

least_below : (P : ℕ → Type 0) → ((k : ℕ) → P k ⊎ (P k → ⊥)) → (m : ℕ) → ((n : ℕ) × P n × ((k : ℕ) → P k → n ≤ k)) ⊎ ((k : ℕ) → k < m → P k → ⊥)
least_below P decide zero = inr (λ k l p. omega arith)
least_below P decide (suc m) = elim (least_below P decide m) [
  | inl found ↦ inl found
  | inr none ↦ elim (decide m) [
    | inl p ↦ inl (
      m,
      p,
      λ k q. elim (cases_order k m) [
        | inl same ↦ omega arith
        | inr h ↦ elim h [ inl l ↦ absurd (none k l q) | inr l ↦ omega arith ]
      ],
    )
    | inr no_m ↦ inr (λ k l q. elim (cases_eq k m) [
      | inl same ↦ no_m (subst P same q)
      | inr ne ↦ none k (omega arith) q
    ])
  ]
]

least_of : (P : ℕ → Type 0) → ((k : ℕ) → P k ⊎ (P k → ⊥)) → (m : ℕ) → P m → (n : ℕ) × P n × ((k : ℕ) → P k → n ≤ k)
least_of P decide m p = elim (least_below P decide (suc m)) [
  | inl found ↦ found
  | inr none ↦ absurd (none m (omega arith) p)
]

pub graph_of-distances : (edges : List (ℕ × ℕ)) (root : ℕ) → HasDistances (graph_of edges) root
graph_of-distances edges root v n w =
    let (k, walk, least) = least_of (λ m. Walk (graph_of edges) root v m) (λ m. walk_or_not edges m root v) n w in
    (k, record { walk = walk; least = least })

-- a graph with one edge more
more : (x : ℕ × ℕ) (es : List (ℕ × ℕ)) {u v n : ℕ} → Walk (graph_of es) u v n → Walk (graph_of (x ∷ es)) u v n
more x es stay = stay
more x es (step {u = u} {v = v} (inl h) w) = step (inl (Contains-later x (u, v) es h)) (more x es w)
more x es (step {u = u} {v = v} (inr h) w) = step (inr (Contains-later x (v, u) es h)) (more x es w)

-- a walk stays among the older edges, or passes the new one
Passes : (x : ℕ × ℕ) (es : List (ℕ × ℕ)) → ℕ → ℕ → Type 0
Passes x es u v = Reaches (graph_of es) u v ⊎ ((Reaches (graph_of es) u x.0 × Reaches (graph_of es) x.1 v) ⊎ (Reaches (graph_of es) u x.1 × Reaches (graph_of es) x.0 v))

older : (x : ℕ × ℕ) (es : List (ℕ × ℕ)) (u v w : ℕ) → graph_of es u v → Passes x es v w → Passes x es u w
unfolding Passes
older x es u v w e (inl (n, r)) = inl (suc n, step e r)
older x es u v w e (inr (inl ((n, r), s))) = inr (inl ((suc n, step e r), s))
older x es u v w e (inr (inr ((n, r), s))) = inr (inr ((suc n, step e r), s))

along_it : (x : ℕ × ℕ) (es : List (ℕ × ℕ)) (w : ℕ) → Passes x es x.1 w → Passes x es x.0 w
unfolding Passes
along_it x es w (inl r) = inr (inl ((0, stay), r))
along_it x es w (inr (inl (r, s))) = inr (inl ((0, stay), s))
along_it x es w (inr (inr (r, s))) = inl s

against_it : (x : ℕ × ℕ) (es : List (ℕ × ℕ)) (w : ℕ) → Passes x es x.0 w → Passes x es x.1 w
unfolding Passes
against_it x es w (inl r) = inr (inr ((0, stay), r))
against_it x es w (inr (inl (r, s))) = inl s
against_it x es w (inr (inr (r, s))) = inr (inr ((0, stay), s))

passes_step : (x : ℕ × ℕ) (es : List (ℕ × ℕ)) (u v w : ℕ) → graph_of (x ∷ es) u v → Passes x es v w → Passes x es u w
passes_step x es u v w (inl h) p = elim (Contains-cases x (u, v) es h) [
  | inl same ↦ subst (λ k. Passes x es k w) (ap (λ e. let f : ℕ × ℕ = e in f.0) same)
      (along_it x es w (subst (λ k. Passes x es k w) (sym (ap (λ e. let f : ℕ × ℕ = e in f.1) same)) p))
  | inr later ↦ older x es u v w (inl later) p
]
passes_step x es u v w (inr h) p = elim (Contains-cases x (v, u) es h) [
  | inl same ↦ subst (λ k. Passes x es k w) (ap (λ e. let f : ℕ × ℕ = e in f.1) same)
      (against_it x es w (subst (λ k. Passes x es k w) (sym (ap (λ e. let f : ℕ × ℕ = e in f.0) same)) p))
  | inr later ↦ older x es u v w (inr later) p
]

passes : (x : ℕ × ℕ) (es : List (ℕ × ℕ)) {u v n : ℕ} → Walk (graph_of (x ∷ es)) u v n → Passes x es u v
unfolding Passes
passes x es stay = inl (0, stay)
passes x es (step {u = u} {v = v} {w = w} e rest) = passes_step x es u v w e (passes x es rest)

unpasses : (x : ℕ × ℕ) (es : List (ℕ × ℕ)) (u v : ℕ) → Passes x es u v → Reaches (graph_of (x ∷ es)) u v
unfolding Passes
unpasses x es u v (inl (n, w)) = (n, more x es w)
unpasses x es u v (inr (inl ((m, a), (n, b)))) = Reaches-trans (graph_of (x ∷ es)) (Reaches-edge (graph_of (x ∷ es)) (m, more x es a) (inl (Contains-head x es))) (n, more x es b)
unpasses x es u v (inr (inr ((m, a), (n, b)))) = Reaches-trans (graph_of (x ∷ es)) (Reaches-edge (graph_of (x ∷ es)) (m, more x es a) (inr (Contains-head x es))) (n, more x es b)

passes_or_not : (x : ℕ × ℕ) (es : List (ℕ × ℕ)) → ((u v : ℕ) → Reaches (graph_of es) u v ⊎ (Reaches (graph_of es) u v → ⊥)) → (u v : ℕ) → Passes x es u v ⊎ (Passes x es u v → ⊥)
unfolding Passes
passes_or_not x es decide u v = either_or_not _ _ (decide u v) (either_or_not _ _ (both_or_not _ _ (decide u x.0) (decide x.1 v)) (both_or_not _ _ (decide u x.1) (decide x.0 v)))

alone : {u v n : ℕ} → Walk (graph_of []) u v n → u ≡ v
alone stay = refl
alone (step {v = v} (inl h) w) = absurd (Contains-nil _ h)
alone (step {v = v} (inr h) w) = absurd (Contains-nil _ h)

reaches_or_not : (edges : List (ℕ × ℕ)) (u v : ℕ) → Reaches (graph_of edges) u v ⊎ (Reaches (graph_of edges) u v → ⊥)
reaches_or_not [] u v = elim (cases_eq u v) [
  | inl same ↦ inl (subst (λ x. Reaches (graph_of []) u x) same (0, stay))
  | inr ne ↦ inr (λ r. ne (alone r.1))
]
reaches_or_not (x ∷ es) u v = elim (passes_or_not x es (reaches_or_not es) u v) [
  | inl p ↦ inl (unpasses x es u v p)
  | inr none ↦ inr (λ r. none (passes x es r.1))
]

-- a number's component has a least number
pub graph_of-root : (edges : List (ℕ × ℕ)) (v : ℕ) → (root : ℕ) × IsRoot (graph_of edges) v root
graph_of-root edges v =
    let (root, reached, least) = least_of (λ u. Reaches (graph_of edges) u v) (λ u. reaches_or_not edges u v) v (0, stay) in
    (root, record { reached = reached; least = least })
