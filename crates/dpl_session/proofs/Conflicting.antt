-- The conflicts of a window's slabs are conflicts of the pieces that they lie in, among them all by squares in the window.
use Rattle.std.proofs.Common.{◌≡◌, ◌≢◌, ◌∙◌, ◌<◌, ◌≤◌, ℕ, ◌⊎◌, inl, inr, List, [], ◌∷◌, ◌++◌, length, get_or, subst, sym, refl, ap, arith}
use Rattle.std.specs.List.{All, Contains}
use Rattle.std.proofs.lemmas.Int.{ints}
use Rattle.std.proofs.lemmas.Bool.{cases_order}
use Rattle.std.proofs.lemmas.List.{length-map, get_or_default}
use Rattle.std.proofs.lemmas.List.Elements.{Contains-append_left, Contains-get_or, Contains-push, Contains-push_cases}
use Rattle.dpl_spec_split.specs.declared.Pt.{Pt}
use Rattle.dpl_spec_split.specs.declared.Rect.{Rect}
use Rattle.dpl_spec_split.specs.declared.Spacing.{Spacing}
use Rattle.dpl_spec_split.specs.Squares.{Has, Near}
use Rattle.dpl_spec_split.specs.Zones.{part_at}
use Rattle.dpl_spec_split.specs.Graphs.{AreEdges}
use Rattle.dpl_spec_split.specs.Pieces.{Conflict}
use Rattle.dpl_spec_split.proofs.SquareLaws.{Near-sym, AreNear-sym}
use Rattle.dpl_spec_split.proofs.SpacingLaws.{few-below}
use Rattle.dpl_slabs.specs.Parts.{AreParts, union_of}
use Rattle.dpl_tile.specs.Adding.{Adds}
use Rattle.dpl_session.specs.declared.window.Window.{Window}
use Rattle.dpl_session.specs.Kept.{AddsConflicts}
use Rattle.dpl_session.specs.Tiles.{window}
use Rattle.dpl_session.proofs.Alone.{alone_has, has_alone}
use Rattle.dpl_session.specs.Windows.{IsEnds, IsNamedEdge, IsWindowOf, each_alone, owner_at, slab_at}

-- the edge of two slabs, by their names
abbrev pub IsEdgeNamed : List ℕ → ℕ × ℕ → ℕ × ℕ → Type 0
IsEdgeNamed names d e = IsEnds (get_or names d.0 0) (get_or names d.1 0) e

pair_is : (e : ℕ × ℕ) (a b : ℕ) → a ≡ e.0 → b ≡ e.1 → e ≡ (a, b)
pair_is e a b h g = ap (λ m. (m, e.1)) (sym h) ∙ ap (λ n. (a, n)) (sym g)

module _ (spacing : Spacing) (pieces : List (List Rect)) (owners : List ℕ) (w : Rect) (x : Window) (is : IsWindowOf pieces owners w x) (parts : AreParts pieces)
    (edges : List (ℕ × ℕ)) (are : AreEdges (Conflict spacing (each_alone x.slabs) x.labels) edges) where
  abbrev name : ℕ → ℕ
  name i = get_or x.names i 0

  many : length (each_alone x.slabs) ≡ length x.slabs
  many = length-map x.slabs (λ r. r ∷ [])

  -- labels differ exactly where owners do
  same_label : (i k : ℕ) → i < length x.slabs → k < length x.slabs → owner_at owners x.names i ≡ owner_at owners x.names k → get_or x.labels i 0 ≡ get_or x.labels k 0
  same_label i k i_in k_in same =
      let a = is.labels.first i i_in in
      let b = is.labels.first k k_in in
      let le : get_or x.labels i 0 ≤ get_or x.labels k 0 = a.first (get_or x.labels k 0) (b.same ∙ sym same) in
      let ge : get_or x.labels k 0 ≤ get_or x.labels i 0 = b.first (get_or x.labels i 0) (a.same ∙ same) in
      omega (arith, le, ge)

  same_owner : (i k : ℕ) → i < length x.slabs → k < length x.slabs → get_or x.labels i 0 ≡ get_or x.labels k 0 → owner_at owners x.names i ≡ owner_at owners x.names k
  same_owner i k i_in k_in same = sym (is.labels.first i i_in).same ∙ (ap (λ n. owner_at owners x.names n) same ∙ (is.labels.first k k_in).same)

  -- an edge of slabs is a conflict of pieces
  conflict_of : (i k : ℕ) → Conflict spacing (each_alone x.slabs) x.labels i k → Conflict spacing pieces owners (name i) (name k)
  conflict_of i k c =
      let first = c.first in
      let second = c.second in
      let i_in : i < length x.slabs = omega (arith, first, many) in
      let k_in : k < length x.slabs = omega (arith, second, many) in
      let (p, q, in_i, in_k, near) = c.near in
      record {
        first = is.names.known i i_in;
        second = is.names.known k k_in;
        apart = λ e. c.apart (same_label i k i_in k_in e);
        near = (p, q, is.names.lies i p (alone_has x.slabs i p in_i i_in), is.names.lies k q (alone_has x.slabs k q in_k k_in), near);
      }

  back : (i k : ℕ) → Conflict spacing pieces owners i k → Conflict spacing pieces owners k i
  back i k c = record { first = c.second; second = c.first; apart = λ e. c.apart (sym e); near = AreNear-sym spacing _ _ c.near }

  ends_order : (p q : ℕ) (e : ℕ × ℕ) → p ≢ q → IsEnds p q e → (e.0 < e.1) × (((e.0 ≡ p) × (e.1 ≡ q)) ⊎ ((e.0 ≡ q) × (e.1 ≡ p)))
  ends_order p q e ne (inl (l, same)) = subst (λ (f : ℕ × ℕ). (f.0 < f.1) × (((f.0 ≡ p) × (f.1 ≡ q)) ⊎ ((f.0 ≡ q) × (f.1 ≡ p)))) (sym same) (l, inl (refl, refl))
  ends_order p q e ne (inr (l, same)) = subst (λ (f : ℕ × ℕ). (f.0 < f.1) × (((f.0 ≡ p) × (f.1 ≡ q)) ⊎ ((f.0 ≡ q) × (f.1 ≡ p)))) (sym same) (omega (arith, l, ne), inr (refl, refl))

  pub named_sound : (e : ℕ × ℕ) → IsNamedEdge x.names edges e → (e.0 < e.1) × Conflict spacing pieces owners e.0 e.1
  named_sound e (d, d_in, ends) =
      let (order, c) = (are.exactly d.0 d.1).0 d_in in
      let there = conflict_of d.0 d.1 c in
      let (rise, which) = ends_order (name d.0) (name d.1) e (λ s. there.apart (ap (λ n. get_or owners n 0) s)) ends in (
        rise,
        elim which [
          | inl (a, b) ↦ subst (λ n. Conflict spacing pieces owners n e.1) (sym a) (subst (λ n. Conflict spacing pieces owners (name d.0) n) (sym b) there)
          | inr (a, b) ↦ subst (λ n. Conflict spacing pieces owners n e.1) (sym a) (subst (λ n. Conflict spacing pieces owners (name d.1) n) (sym b) (back (name d.0) (name d.1) there))
        ],
      )

  -- a square lies in one piece
  one_piece : (a b : ℕ) (p : Pt) → a < length pieces → b < length pieces → part_at pieces a p → part_at pieces b p → a ≡ b
  one_piece a b p a_in b_in in_a in_b = elim (cases_order a b) [
    | inl e ↦ e
    | inr other ↦ elim other [
      | inl l ↦ absurd (parts.apart a b [] l b_in p in_a in_b)
      | inr l ↦ absurd (parts.apart b a [] l a_in p in_b in_a)
    ]
  ]

  -- the slab of a square of a piece in the window
  slab_of : (a : ℕ) (p : Pt) → a < length pieces → part_at pieces a p → Has w p → (i : ℕ) × (i < length x.slabs) × slab_at x.slabs i p × (name i ≡ a)
  slab_of a p a_in in_a has =
      let there : union_of pieces p = (a, get_or pieces a [], a_in, get_or_default pieces a (get_or pieces a []) [] a_in, in_a) in
      let (i, r, i_in, r_is, p_in) = (is.slabs.covers p).1 (there, has) in
      let at : slab_at x.slabs i p = (r, i_in, r_is, p_in) in
      (i, i_in, at, one_piece (name i) a p (is.names.known i i_in) a_in (is.names.lies i p at) in_a)

  edge_in : (i k : ℕ) (p q : Pt) → i < length x.slabs → k < length x.slabs → slab_at x.slabs i p → slab_at x.slabs k q → Near spacing p q
      → owner_at owners x.names i ≢ owner_at owners x.names k → i < k → Contains edges (i, k)
  edge_in i k p q i_in k_in in_i in_k near apart l = (are.exactly i k).1 (
    l,
    record {
      first = omega (arith, i_in, many);
      second = omega (arith, k_in, many);
      apart = λ e. apart (same_owner i k i_in k_in e);
      near = (p, q, has_alone x.slabs i p in_i, has_alone x.slabs k q in_k, near);
    },
  )

  pub named_full : (e : ℕ × ℕ) (p q : Pt) → e.0 < e.1 → e.1 < length pieces → get_or owners e.0 0 ≢ get_or owners e.1 0 → part_at pieces e.0 p → part_at pieces e.1 q → Near spacing p q
      → Has w p → Has w q → IsNamedEdge x.names edges e
  named_full e p q rise e_in apart in_a in_b near p_w q_w =
      let (i, i_in, p_at, i_is) = slab_of e.0 p (omega (arith, rise, e_in)) in_a p_w in
      let (k, k_in, q_at, k_is) = slab_of e.1 q e_in in_b q_w in
      let differ : owner_at owners x.names i ≢ owner_at owners x.names k = λ s. apart (ap (λ n. get_or owners n 0) (sym i_is) ∙ (s ∙ ap (λ n. get_or owners n 0) k_is)) in
      elim (cases_order i k) [
        | inl s ↦ absurd (differ (ap (λ n. owner_at owners x.names n) s))
        | inr other ↦ elim other [
          | inl l ↦ ((i, k), edge_in i k p q i_in k_in p_at q_at near differ l, inl (omega (arith, rise, i_is, k_is), pair_is e (name i) (name k) i_is k_is))
          | inr l ↦ (
            (k, i),
            edge_in k i q p k_in i_in q_at p_at (Near-sym spacing p q near) (λ s. differ (sym s)) l,
            inr
                (omega (arith, rise, i_is, k_is), pair_is e (name i) (name k) i_is k_is),
          )
        ]
      ]

-- what is near a square of a cell lies in the cell's window
pub own_window : (rule : ℕ) (cell : Rect) (p : Pt) → Has cell p → Has (window rule cell) p
own_window rule cell p has =
    let a = has.left in
    let b = has.right in
    let c = has.low in
    let d = has.high in
    record { left = omega (arith, ints, a); right = omega (arith, ints, b); low = omega (arith, ints, c); high = omega (arith, ints, d) }

near_window : (spacing : Spacing) (cell : Rect) (p q : Pt) → spacing.corner ≤ spacing.rule → Has cell p → Near spacing p q → Has (window spacing.rule cell) q
near_window spacing cell p q corner has near =
    let (across, up) = few-below spacing _ _ corner near in
    let a = has.left in
    let b = has.right in
    let c = has.low in
    let d = has.high in
    record { left = omega (arith, ints, a, across); right = omega (arith, ints, b, across); low = omega (arith, ints, c, up); high = omega (arith, ints, d, up) }

pub adds_conflicts : (spacing : Spacing) (pieces : List (List Rect)) (owners : List ℕ) (cell : Rect) (x : Window) (edges old new : List (ℕ × ℕ))
    → spacing.corner ≤ spacing.rule → AreParts pieces
    → IsWindowOf pieces owners (window spacing.rule cell) x → AreEdges (Conflict spacing (each_alone x.slabs) x.labels) edges → Adds (IsNamedEdge x.names edges) old new
    → AddsConflicts spacing pieces owners cell old new
adds_conflicts spacing pieces owners cell x edges old new corner parts is are adds = record {
  kept = λ e c. (adds e).1 (inl c);
  sound = λ e c. elim ((adds e).0 c) [ inl before ↦ inl before | inr named ↦ inr (named_sound spacing pieces owners (window spacing.rule cell) x is parts edges are e named) ];
  full = λ e p q rise e_in apart in_a in_b near has. (adds e).1
      (inr (named_full spacing pieces owners (window spacing.rule cell) x is parts edges are e p q rise e_in apart in_a in_b near
      (own_window spacing.rule cell p has) (near_window spacing cell p q corner has near)));
}

pub edges_named : (spacing : Spacing) (pieces : List (List Rect)) (owners : List ℕ) (w : Rect) (x : Window) (edges : List (ℕ × ℕ)) → IsWindowOf pieces owners w x
    → AreEdges (Conflict spacing (each_alone x.slabs) x.labels) edges → All (λ (e : ℕ × ℕ). (e.0 < length x.names) × (e.1 < length x.names)) edges
edges_named spacing pieces owners w x edges is are k d k_in =
    let c = ((are.exactly (get_or edges k d).0 (get_or edges k d).1).0 (Contains-get_or edges k d k_in)).1 in
    let first = c.first in
    let second = c.second in
    let many : length (each_alone x.slabs) ≡ length x.slabs = length-map x.slabs (λ r. r ∷ []) in
    let each = is.names.each in
    (omega (arith, first, many, each), omega (arith, second, many, each))

ends_unique : (p q : ℕ) (e f : ℕ × ℕ) → IsEnds p q e → IsEnds p q f → e ≡ f
ends_unique p q e f (inl (l, a)) (inl (m, b)) = a ∙ sym b
ends_unique p q e f (inl (l, a)) (inr (m, b)) = absurd (omega (arith, l, m))
ends_unique p q e f (inr (l, a)) (inl (m, b)) = absurd (omega (arith, l, m))
ends_unique p q e f (inr (l, a)) (inr (m, b)) = a ∙ sym b

pub adds_ends : (p q : ℕ) (e : ℕ × ℕ) (old new : List (ℕ × ℕ)) → IsEnds p q e → new ≡ old ++ e ∷ [] → Adds (IsEnds p q) old new
adds_ends p q e old new ends is x = rw is (
  λ c. elim (Contains-push_cases old e x c) [ inl a ↦ inl a | inr same ↦ inr (subst (IsEnds p q) same ends) ],
  λ c. elim c [ inl a ↦ Contains-append_left old (e ∷ []) x a | inr other ↦ subst (λ t. Contains (old ++ e ∷ []) t) (ends_unique p q e x ends other) (Contains-push old e) ],
)
