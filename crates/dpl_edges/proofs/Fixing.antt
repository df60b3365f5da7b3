-- Edges of anchors, gathered piece by piece.
use Rattle.std.proofs.Common.{◌≡◌, ℕ, zero, suc, ◌+◌, ◌<◌, ◌≤◌, ◌⊎◌, inl, inr, List, [], ◌∷◌, ◌++◌, map, length, get_or, sym, refl, ap, ◌∙◌, subst, arith}
use Rattle.std.specs.Prelude.{◌↔◌}
use Rattle.std.specs.List.{AllPairs, Contains}
use Rattle.std.proofs.lemmas.Bool.{cases_eq, cases_order}
use Rattle.std.proofs.lemmas.List.{get_or_default}
use Rattle.std.proofs.lemmas.List.Elements.{Contains-append_cases, Contains-append_left, Contains-append_right, Contains-push, Contains-push_cases}
use Rattle.std.proofs.lemmas.List.Quantifiers.{all_pairs_push}
use Rattle.dpl_spec_split.specs.declared.Spacing.{Spacing}
use Rattle.dpl_spec_split.specs.declared.Pt.{Pt}
use Rattle.dpl_spec_split.specs.declared.Rect.{Rect}
use Rattle.dpl_spec_split.specs.Squares.{Covers, Has, SameSquares}
use Rattle.dpl_spec_split.specs.Zones.{part_at}
use Rattle.dpl_spec_split.specs.Pieces.{Conflict}
use Rattle.dpl_spec_split.specs.Graphs.{AreEdges, Precedes, graph_of}
use Rattle.dpl_spec_split.specs.Marks.{Marks, HasSome, MarkEdge, Anchored, anchors, fixed_to_a, fixed_to_b, conflict, up, down}
use Rattle.dpl_spec_split.proofs.Ordered.{has-map, map-has}
use Rattle.dpl_spec_split.proofs.SquareLaws.{AreNear-sym}
use Rattle.dpl_edges.specs.Fixed.{IsAhead, IsAnchorEdge, marks_of}

-- ---- slabs of a piece

-- none of the first n slabs has a square of the set
abbrev pub NoneYet : List Rect → List Rect → ℕ → Type 0
NoneYet part set n = (k : ℕ) (d : Rect) (p : Pt) → k < n → Has (get_or part k d) p → Covers set p → ⊥

pub none-more : (part set : List Rect) (n : ℕ) (r : Rect) → n < length part → NoneYet part set n → ((p : Pt) × Has (get_or part n r) p × Covers set p → ⊥) → NoneYet part set (n + 1)
none-more part set n r n_in none here k d p l has at = elim (cases_eq k n) [
  | inl e ↦ here (p, subst (λ s. Has s p) (ap (λ m. get_or part m d) e ∙ get_or_default part n d r n_in) has, at)
  | inr ne ↦ none k d p (omega (arith, l, ne)) has at
]

pub some-here : (part set : List Rect) (n : ℕ) (r : Rect) → n < length part → (p : Pt) × Has (get_or part n r) p × Covers set p → HasSome (Covers part) (Covers set)
some-here part set n r n_in (p, has, at) = (p, (n, get_or part n r, n_in, get_or_default part n (get_or part n r) r n_in, has), at)

pub none-some : (part set : List Rect) (n : ℕ) → length part ≤ n → NoneYet part set n → HasSome (Covers part) (Covers set) → ⊥
none-some part set n all none (p, (k, r, k_in, k_is, has), at) = none k r p (omega (arith, all, k_in)) (subst (λ s. Has s p) (sym k_is) has) at

pub some-as : (part a b : List Rect) → SameSquares (Covers a) (Covers b) → HasSome (Covers part) (Covers a) → HasSome (Covers part) (Covers b)
some-as part a b same (p, mine, at) = (p, mine, (same p).0 at)

-- ---- pieces

abbrev pub FixedBelow : List (List Rect) → List Rect → ℕ → ℕ → ℕ × ℕ → Type 0
FixedBelow parts set anchor n e = (k : ℕ) × (k < n) × (k < length parts) × HasSome (part_at parts k) (Covers set) × (e.0 ≡ anchor) × (e.1 ≡ k + 2)

-- the edges of the anchor and the first n pieces were added
pub record AreFixedBelow (parts : List (List Rect)) (set : List Rect) (anchor : ℕ) (old : List (ℕ × ℕ)) (n : ℕ) (new : List (ℕ × ℕ)) : Type 0 where
  pub ordered : AllPairs Precedes new
  pub members : (e : ℕ × ℕ) → Contains new e ↔ (Contains old e ⊎ FixedBelow parts set anchor n e)

module _ (parts : List (List Rect)) (set : List Rect) (anchor : ℕ) (old : List (ℕ × ℕ)) where
  pub fixed-none : AllPairs Precedes old → AreFixedBelow parts set anchor old 0 old
  fixed-none ordered = record { ordered = ordered; members = λ e. (λ h. inl h, λ h. elim h [ inl a ↦ a | inr (k, l, k_in, some, x, y) ↦ absurd (omega (arith, l)) ]) }

  pub fixed-pass : (n : ℕ) (new : List (ℕ × ℕ)) → (HasSome (part_at parts n) (Covers set) → ⊥) → AreFixedBelow parts set anchor old n new → AreFixedBelow parts set anchor old (n + 1) new
  fixed-pass n new none h = record {
    ordered = h.ordered;
    members = λ e. (
      λ a. elim ((h.members e).0 a) [ inl b ↦ inl b | inr (k, l, k_in, some, x, y) ↦ inr (k, omega (arith, l), k_in, some, x, y) ],
      λ a. (h.members e).1 (elim a [
        | inl b ↦ inl b
        | inr (k, l, k_in, some, x, y) ↦ elim (cases_eq k n) [
          | inl same ↦ absurd (none (subst (λ m. HasSome (part_at parts m) (Covers set)) same some))
          | inr ne ↦ inr (k, omega (arith, l, ne), k_in, some, x, y)
        ]
      ]),
    );
  }

  pub fixed-more : (n vertex : ℕ) (new : List (ℕ × ℕ)) → IsAhead anchor old → n < length parts → HasSome (part_at parts n) (Covers set) → vertex ≡ n + 2
      → AreFixedBelow parts set anchor old n new → AreFixedBelow parts set anchor old (n + 1) (new ++ (anchor, vertex) ∷ [])
  fixed-more n vertex new ahead n_in some vertex_is h = record {
    ordered = all_pairs_push Precedes new (anchor, vertex) h.ordered (λ k d l. before (get_or new k d) (k, l, get_or_default new k (get_or new k d) d l));
    members = λ e. (
      λ a. elim (Contains-push_cases new (anchor, vertex) e a) [
        | inl b ↦ elim ((h.members e).0 b) [ inl c ↦ inl c | inr (k, l, k_in, has, x, y) ↦ inr (k, omega (arith, l), k_in, has, x, y) ]
        | inr is ↦ inr (n, omega arith, n_in, some, ap (λ p. let q : ℕ × ℕ = p in q.0) (sym is), ap (λ p. let q : ℕ × ℕ = p in q.1) (sym is) ∙ vertex_is)
      ],
      λ a. elim a [
        | inl b ↦ Contains-append_left new ((anchor, vertex) ∷ []) e ((h.members e).1 (inl b))
        | inr (k, l, k_in, has, x, y) ↦ elim (cases_eq k n) [
          | inl same ↦ (let v : e.1 ≡ vertex = y ∙ (ap (λ m. m + 2) same ∙ sym vertex_is) in
              let is : (anchor, vertex) ≡ e = sym (ap (λ m. (m, e.1)) x ∙ ap (λ m. (anchor, m)) v) in
              subst (λ p. Contains (new ++ (anchor, vertex) ∷ []) p) is (Contains-push new (anchor, vertex)))
          | inr ne ↦ Contains-append_left new ((anchor, vertex) ∷ []) e ((h.members e).1 (inr (k, omega (arith, l, ne), k_in, has, x, y)))
        ]
      ],
    );
  }
    where
      before : (e : ℕ × ℕ) → Contains new e → Precedes e (anchor, vertex)
      before e there = elim ((h.members e).0 there) [
        | inl b ↦ subst (λ v. Precedes e (anchor, v)) (sym vertex_is) (ahead e n b)
        | inr (k, l, k_in, has, x, y) ↦ inr (x, omega (arith, l, y, vertex_is))
      ]

  pub fixed-all : (n : ℕ) (new : List (ℕ × ℕ)) → length parts ≤ n → AreFixedBelow parts set anchor old n new
      → (e : ℕ × ℕ) → Contains new e ↔ (Contains old e ⊎ IsAnchorEdge parts set anchor e)
  fixed-all n new all h e = (
    λ a. elim ((h.members e).0 a) [ inl b ↦ inl b | inr (k, l, k_in, some, x, y) ↦ inr (k, k_in, some, x, y) ],
    λ a. (h.members e).1 (elim a [ inl b ↦ inl b | inr (k, k_in, some, x, y) ↦ inr (k, omega (arith, all, k_in), k_in, some, x, y) ]),
  )

-- ---- both anchors

pub alone-ordered : AllPairs Precedes ((0, 1) ∷ [])
alone-ordered i j d l j_in = absurd (omega (arith, l, j_in))

in-alone : (e : ℕ × ℕ) → Contains ((0, 1) ∷ []) e → ((0, 1) ≡ e)
in-alone e (zero, k_in, is) = is
in-alone e (suc k, k_in, is) = absurd (omega (arith, k_in))

pub alone-ahead : IsAhead 0 ((0, 1) ∷ [])
alone-ahead e k there =
    let is = in-alone e there in
    subst (λ p. Precedes p (0, k + 2)) is (inr (refl, omega arith))

-- the edges of anchor 0 precede those of anchor 1
pub first-ahead : (parts : List (List Rect)) (set : List Rect) (edges : List (ℕ × ℕ))
    → ((e : ℕ × ℕ) → Contains edges e ↔ (Contains ((0, 1) ∷ []) e ⊎ IsAnchorEdge parts set 0 e)) → IsAhead 1 edges
first-ahead parts set edges members e k there = elim ((members e).0 there) [
  | inl b ↦ (let is = in-alone e b in let zero_is : 0 ≡ e.0 = ap (λ p. let q : ℕ × ℕ = p in q.0) is in inl (omega (arith, zero_is)))
  | inr (j, j_in, some, x, y) ↦ inl (omega (arith, x))
]

pub marks-all : (parts : List (List Rect)) (a b : List Rect) (one two : List (ℕ × ℕ))
    → ((e : ℕ × ℕ) → Contains one e ↔ (Contains ((0, 1) ∷ []) e ⊎ IsAnchorEdge parts b 0 e))
    → ((e : ℕ × ℕ) → Contains two e ↔ (Contains one e ⊎ IsAnchorEdge parts a 1 e)) → AllPairs Precedes two
    → AreEdges (MarkEdge (marks_of a b) parts) two
marks-all parts a b one two first second ordered = record { ordered = ordered; exactly = exactly }
  where
    edge : (u v : ℕ) → Contains two (u, v) → (u < v) × MarkEdge (marks_of a b) parts u v
    edge u v there = elim ((second (u, v)).0 there) [
      | inr (k, k_in, some, x, y) ↦ (omega (arith, x, y), fixed_to_a k k_in some x y)
      | inl h ↦ elim ((first (u, v)).0 h) [
        | inr (k, k_in, some, x, y) ↦ (omega (arith, x, y), fixed_to_b k k_in some x y)
        | inl alone ↦ (let is = in-alone (u, v) alone in
            let x : 0 ≡ u = ap (λ p. let q : ℕ × ℕ = p in q.0) is in
            let y : 1 ≡ v = ap (λ p. let q : ℕ × ℕ = p in q.1) is in
            (omega (arith, x, y), anchors (sym x) (sym y)))
      ]
    ]

    listed : (u v : ℕ) → MarkEdge (marks_of a b) parts u v → Contains two (u, v)
    listed u v (anchors x y) = (second (u, v)).1 (inl ((first (u, v)).1 (inl (0, omega arith, sym (ap (λ m. (m, v)) x ∙ ap (λ m. (0, m)) y)))))
    listed u v (fixed_to_b k k_in some x y) = (second (u, v)).1 (inl ((first (u, v)).1 (inr (k, k_in, some, x, y))))
    listed u v (fixed_to_a k k_in some x y) = (second (u, v)).1 (inr (k, k_in, some, x, y))

    exactly : (u v : ℕ) → Contains two (u, v) ↔ ((u < v) × MarkEdge (marks_of a b) parts u v)
    exactly u v = (edge u v, λ (l, h). listed u v h)

-- ---- the graph

marked-rise : (m : Marks) (pieces : List (List Rect)) (u v : ℕ) → MarkEdge m pieces u v → u < v
marked-rise m pieces u v (anchors x y) = omega (arith, x, y)
marked-rise m pieces u v (fixed_to_b k k_in some x y) = omega (arith, x, y)
marked-rise m pieces u v (fixed_to_a k k_in some x y) = omega (arith, x, y)

abbrev by_two : ℕ × ℕ → ℕ × ℕ
by_two e = (e.0 + 2, e.1 + 2)

module _ (spacing : Spacing) (m : Marks) (pieces : List (List Rect)) (owners : List ℕ) (conflicts marked : List (ℕ × ℕ))
    (are : AreEdges (Conflict spacing pieces owners) conflicts) (fixed : AreEdges (MarkEdge m pieces) marked) where
  other-way : (i j : ℕ) → Conflict spacing pieces owners i j → Conflict spacing pieces owners j i
  other-way i j h = record { first = h.second; second = h.first; apart = λ e. h.apart (sym e); near = AreNear-sym spacing _ _ h.near }

  from-list : (u v : ℕ) → Contains (map by_two conflicts ++ marked) (u, v) → Anchored spacing m pieces owners u v
  from-list u v there = elim (Contains-append_cases (map by_two conflicts) marked (u, v) there) [
    | inl shifted ↦ (let (e, e_in, is) = has-map by_two conflicts (u, v) shifted in
        conflict e.0 e.1 ((are.exactly e.0 e.1).0 e_in).1 (sym (ap (λ p. let q : ℕ × ℕ = p in q.0) is)) (sym (ap (λ p. let q : ℕ × ℕ = p in q.1) is)))
    | inr mark ↦ up ((fixed.exactly u v).0 mark).1
  ]

  turned : (u v : ℕ) → Anchored spacing m pieces owners u v → Anchored spacing m pieces owners v u
  turned u v (conflict i j h x y) = conflict j i (other-way i j h) y x
  turned u v (up h) = down h
  turned u v (down h) = up h

  pair-listed : (i j u v : ℕ) → i < j → Conflict spacing pieces owners i j → u ≡ i + 2 → v ≡ j + 2 → Contains (map by_two conflicts ++ marked) (u, v)
  pair-listed i j u v l h x y = Contains-append_left (map by_two conflicts) marked (u, v)
      (map-has by_two conflicts (i, j) (u, v) ((are.exactly i j).1 (l, h)) (sym (ap (λ n. (n, v)) x ∙ ap (λ n. (i + 2, n)) y)))

  to-list : (u v : ℕ) → Anchored spacing m pieces owners u v → graph_of (map by_two conflicts ++ marked) u v
  to-list u v (conflict i j h x y) = elim (cases_order i j) [
    | inl same ↦ absurd (h.apart (ap (λ n. get_or owners n 0) same))
    | inr (inl l) ↦ inl (pair-listed i j u v l h x y)
    | inr (inr l) ↦ inr (pair-listed j i v u l (other-way i j h) y x)
  ]
  to-list u v (up h) = inl (Contains-append_right (map by_two conflicts) marked (u, v) ((fixed.exactly u v).1 (marked-rise m pieces u v h, h)))
  to-list u v (down h) = inr (Contains-append_right (map by_two conflicts) marked (v, u) ((fixed.exactly v u).1 (marked-rise m pieces v u h, h)))

  pub make-graph : (u v : ℕ) → graph_of (map by_two conflicts ++ marked) u v ↔ Anchored spacing m pieces owners u v
  make-graph u v = (λ h. elim h [ inl a ↦ from-list u v a | inr b ↦ turned v u (from-list v u b) ], to-list u v)
