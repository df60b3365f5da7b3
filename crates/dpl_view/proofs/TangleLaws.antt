-- The edges of components with an odd cycle: those whose root is marked.
use Rattle.std.proofs.Common.{◌≡◌, ℕ, zero, suc, ◌+◌, ◌<◌, inl, inr, Bool, true, false, cond, List, [], ◌∷◌, length, get_or, set, sym, refl, ap, subst, ◌∙◌, arith, get_or-set_same, get_or-set_other}
use Rattle.std.specs.List.{AllPairs, Contains, filter, count_by}
use Rattle.std.proofs.lemmas.Bool.{cases_eq}
use Rattle.std.proofs.lemmas.List.{get_or_default}
use Rattle.std.proofs.lemmas.List.Elements.{All-contains, All-filter, filter_passes}
use Rattle.std.proofs.lemmas.List.Kept.{AllPairs-filter}
use Rattle.std.proofs.lemmas.List.Sums.{length-filter}
use Rattle.dpl_spec_split.specs.Graphs.{Graph, IsDistance, IsRoot, Precedes, graph_of}
use Rattle.dpl_spec_split.specs.Cycle.{IsLevelEdge}
use Rattle.dpl_spec_split.specs.Summary.{HasOddCycle}
use Rattle.dpl_spec_split.proofs.GraphLaws.{root-unique}
use Rattle.dpl_stars.specs.Laws.{HasOddCycleAt}
use Rattle.dpl_stars.specs.Levels.{AreEdgesBelow, AreLevels}
use Rattle.dpl_stars.proofs.ArcLaws.{below-ordered, edge-below}
use Rattle.dpl_stars.proofs.OddLaws.{levels-show}
use Rattle.dpl_odd.specs.Paths.{IsLevel, edge_at}
use Rattle.dpl_odd.proofs.ReportLaws.{own_root, same_root, listed_level}
use Rattle.dpl_answer.proofs.SameGraphs.{SameEdges, same_back, root_same}
use Rattle.dpl_view.specs.Clashes.{IsTangled, HasTangled}
use Rattle.dpl_view.specs.Marks.{AreMarks, HasLevelBelow, is_marked}
use Rattle.dpl_view.proofs.ViewLaws.{odd_at_same}

-- ---- what a filter keeps

abbrev Pairs : Type 0
Pairs = List (ℕ × ℕ)

there : (y : ℕ × ℕ) (ys : Pairs) (x : ℕ × ℕ) → Contains ys x → Contains (y ∷ ys) x
there y ys x (k, l, at) = (suc k, omega (arith, l), at)

either : (b : Bool) (y : ℕ × ℕ) (ys : Pairs) (x : ℕ × ℕ) → Contains ys x → Contains (cond b (y ∷ ys) ys) x
either true y ys x h = there y ys x h
either false y ys x h = h

kept : (p : ℕ × ℕ → Bool) (xs : Pairs) (x : ℕ × ℕ) → Contains xs x → p x ≡ true → Contains (filter p xs) x
kept p [] x (k, l, at) ok = absurd (omega (arith, l))
kept p (y ∷ ys) x (zero, l, at) ok = subst (λ b. Contains (cond b (y ∷ filter p ys) (filter p ys)) x) (sym (ap p at ∙ ok)) (0, omega arith, at)
kept p (y ∷ ys) x (suc k, l, at) ok = either (p y) y (filter p ys) x (kept p ys x (k, omega (arith, l), at) ok)

passed : (p : ℕ × ℕ → Bool) (xs : Pairs) (x : ℕ × ℕ) → Contains (filter p xs) x → Contains xs x × (p x ≡ true)
passed p xs x h = (
  All-contains (λ y. Contains xs y) (filter p xs) x (All-filter p (λ y. Contains xs y) xs (λ k d l. (k, l, get_or_default xs k (get_or xs k d) d l))) h,
  All-contains (λ y. p y ≡ true) (filter p xs) x (filter_passes p xs) h,
)

-- ---- marks

-- one edge more
more : (roots levels : List ℕ) (edges : Pairs) (i root : ℕ) → HasLevelBelow roots levels edges i root → HasLevelBelow roots levels edges (i + 1) root
more roots levels edges i root (k, l, level, at) = (k, omega (arith, l), level, at)

pub marks-start : (roots levels : List ℕ) (edges : Pairs) (n : ℕ) (marks : List Bool) → ((root : ℕ) → get_or marks root false ≡ false) → AreMarks roots levels edges 0 marks
marks-start roots levels edges n marks none root = (λ marked. let both : true ≡ false = sym marked ∙ none root in cc, λ (k, l, level, at). absurd (omega (arith, l)))

pub marks-slanted : (roots levels : List ℕ) (edges : Pairs) (i : ℕ) (marks : List Bool) → ¬ IsLevel levels (edge_at edges i)
    → AreMarks roots levels edges i marks → AreMarks roots levels edges (i + 1) marks
marks-slanted roots levels edges i marks slanted h root = (
  λ marked. more roots levels edges i root ((h root).0 marked),
  λ (k, l, level, at). elim (cases_eq k i) [
    | inl same ↦ absurd (slanted (subst (λ j. IsLevel levels (edge_at edges j)) same level))
    | inr ne ↦ (h root).1 (k, omega (arith, l, ne), level, at)
  ],
)

pub marks-level : (roots levels : List ℕ) (edges : Pairs) (i top : ℕ) (marks : List Bool) → IsLevel levels (edge_at edges i)
    → get_or roots (edge_at edges i).0 0 ≡ top → top < length marks
    → AreMarks roots levels edges i marks → AreMarks roots levels edges (i + 1) (set marks top true)
marks-level roots levels edges i top marks level at top_in h root = elim (cases_eq root top) [
  | inl same ↦ (
    λ marked. (i, omega arith, level, at ∙ sym same),
    λ has. ap (λ k. get_or (set marks top true) k false) same ∙ get_or-set_same marks top true false top_in,
  )
  | inr ne ↦
      let as_before : get_or (set marks top true) root false ≡ get_or marks root false = get_or-set_other marks top root true false ne in (
        λ marked. more roots levels edges i root ((h root).0 (sym as_before ∙ marked)),
        λ (k, l, is, here). elim (cases_eq k i) [
          | inl e ↦ absurd (ne (sym here ∙ (ap (λ j. get_or roots (edge_at edges j).0 0) e ∙ at)))
          | inr other ↦ as_before ∙ (h root).1 (k, omega (arith, l, other), is, here)
        ],
      )
]

-- ---- marked roots are those of components with an odd cycle

level_below : (edges : Pairs) (n : ℕ) (roots levels : List ℕ) → AreEdgesBelow n edges → AreLevels edges n roots levels → (root : ℕ)
    → HasLevelBelow roots levels edges (length edges) root → (e : ℕ × ℕ) × IsLevelEdge (graph_of edges) root e
level_below edges n roots levels b lv root (k, k_in, level, at) =
    let e : ℕ × ℕ = edge_at edges k in
    let listed : Contains edges e = (k, k_in, get_or_default edges k e (0, 0) k_in) in
    let joined : graph_of edges e.0 e.1 = inl listed in
    let (u_in, v_in) = edge-below n edges b e.0 e.1 joined in
    let other : get_or roots e.1 0 ≡ root = same_root edges n roots levels b lv e.0 e.1 joined ∙ at in (
      e,
      record {
        order = All-contains (λ (x : ℕ × ℕ). x.0 < x.1) edges e (below-ordered n edges b) listed;
        joined_by = joined;
        level = (
          get_or levels e.0 0,
          subst (λ r. IsDistance (graph_of edges) r e.0 (get_or levels e.0 0)) at (lv.level e.0 u_in),
          subst (λ m. IsDistance (graph_of edges) root e.1 m) (sym level)
              (subst (λ r. IsDistance (graph_of edges) r e.1 (get_or levels e.1 0)) other (lv.level e.1 v_in)),
        );
      },
    )

marked_odd : (edges : Pairs) (n : ℕ) (roots levels : List ℕ) (marks : List Bool) → AreEdgesBelow n edges → AreLevels edges n roots levels
    → AreMarks roots levels edges (length edges) marks → (root : ℕ) → get_or marks root false ≡ true → HasOddCycleAt (graph_of edges) root
marked_odd edges n roots levels marks b lv are root marked =
    (levels-show edges (below-ordered n edges b) root).1 (level_below edges n roots levels b lv root ((are root).0 marked))

odd_marked : (edges : Pairs) (n : ℕ) (roots levels : List ℕ) (marks : List Bool) → AreEdgesBelow n edges → AreLevels edges n roots levels
    → AreMarks roots levels edges (length edges) marks → (root : ℕ) → IsRoot (graph_of edges) root root → HasOddCycleAt (graph_of edges) root
    → get_or marks root false ≡ true
odd_marked edges n roots levels marks b lv are root top odd =
    let (e, is) = (levels-show edges (below-ordered n edges b) root).0 odd in
    let (listed, at, level) = listed_level edges n roots levels b lv root top e is in
    let (k, k_in, here) = listed in
    (are root).1 (k, k_in, subst (λ x. IsLevel levels x) (sym here) level, subst (λ (x : ℕ × ℕ). get_or roots x.0 0 ≡ root) (sym here) at)

pub tangled-of : (edges : Pairs) (n : ℕ) (roots levels : List ℕ) (marks : List Bool) (count : ℕ) → AreEdgesBelow n edges → AllPairs Precedes edges
    → AreLevels edges n roots levels → AreMarks roots levels edges (length edges) marks → count ≡ count_by (is_marked roots marks) edges
    → HasTangled (graph_of edges) count
tangled-of edges n roots levels marks count b ordered lv are is =
    let p : ℕ × ℕ → Bool = is_marked roots marks in
    record {
      edges = filter p edges;
      all = record {
        ordered = AllPairs-filter Precedes p edges ordered;
        exactly = λ u v. (
          λ h.
              let (listed, marked) = passed p edges (u, v) h in
              let joined : graph_of edges u v = inl listed in
              let u_in = (edge-below n edges b u v joined).0 in (
                All-contains (λ (x : ℕ × ℕ). x.0 < x.1) edges (u, v) (below-ordered n edges b) listed,
                record {
                  joined_by = joined;
                  root = get_or roots u 0;
                  rooted = lv.root u u_in;
                  odd = marked_odd edges n roots levels marks b lv are (get_or roots u 0) marked;
                },
              ),
          λ (order, t).
              let listed : Contains edges (u, v) = elim t.joined_by [
                | inl h ↦ h
                | inr h ↦ absurd (let l : v < u = All-contains (λ (x : ℕ × ℕ). x.0 < x.1) edges (v, u) (below-ordered n edges b) h in omega (arith, l, order))
              ] in
              let u_in = (edge-below n edges b u v (inl listed)).0 in
              let same : t.root ≡ get_or roots u 0 = root-unique (graph_of edges) u t.root (get_or roots u 0) t.rooted (lv.root u u_in) in
              let odd : HasOddCycleAt (graph_of edges) (get_or roots u 0) = subst (λ r. HasOddCycleAt (graph_of edges) r) same t.odd in
              kept p edges (u, v) listed (odd_marked edges n roots levels marks b lv are (get_or roots u 0) (own_root edges n roots levels b lv u u_in) odd),
        );
      };
      as_many = is ∙ sym (length-filter p edges);
    }

-- ---- the same edges in another graph

tangled_back : (g h : Graph) → SameEdges g h → (u v : ℕ) → IsTangled g u v → IsTangled h u v
tangled_back g h same u v t = record {
  joined_by = (same u v).0 t.joined_by;
  root = t.root;
  rooted = root_same g h same u t.root t.rooted;
  odd = odd_at_same g h same t.root t.odd;
}

pub tangled-same : (g h : Graph) → SameEdges g h → (count : ℕ) → HasTangled g count → HasTangled h count
tangled-same g h same count has = record {
  edges = has.edges;
  all = record {
    ordered = has.all.ordered;
    exactly = λ u v. (
      λ there. let (order, t) = (has.all.exactly u v).0 there in (order, tangled_back g h same u v t),
      λ (order, t). (has.all.exactly u v).1 (order, tangled_back h g (same_back g h same) u v t),
    );
  };
  as_many = has.as_many;
}

pub tangled-none : (g : Graph) → ¬ HasOddCycle g → HasTangled g 0
tangled-none g none = record {
  edges = [];
  all = record {
    ordered = λ i j d l within. absurd (omega (arith, within));
    exactly = λ u v. (λ (k, l, at). absurd (omega (arith, l)), λ (order, t). let (c, is, reached) = t.odd in absurd (none (c, is)));
  };
  as_many = refl;
}
