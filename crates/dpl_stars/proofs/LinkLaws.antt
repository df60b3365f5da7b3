-- The links of a graph's summary carry the graph, and the graph carries them.
use Rattle.std.proofs.Common.{◌≡◌, ℕ, suc, ◌+◌, ◌%◌, ◌<◌, inl, inr, Bool, true, false, not, List, map, get_or, sym, refl, ap, ◌∙◌, subst, arith}
use Rattle.std.specs.Prelude.{◌==◌}
use Rattle.std.specs.List.{AllPairs, Contains}
use Rattle.std.proofs.lemmas.Bool.{cases_eq, cases_order, eqb-true, eqb-false, eq-eqb, ne_eqb, true≢false}
use Rattle.std.proofs.lemmas.List.{get_or_default}
use Rattle.std.proofs.lemmas.List.Elements.{All-contains}
use Rattle.dpl_spec_split.specs.Graphs.{Walk, stay, step, IsDistance, IsRoot, graph_of}
use Rattle.dpl_spec_split.specs.Summary.{Row, IsStar, AreStars}
use Rattle.dpl_spec_split.proofs.GraphLaws.{Walk-trans}
use Rattle.dpl_stars.specs.Laws.{AreOrdered}
use Rattle.dpl_stars.proofs.Walks.{graph_of-undirected, Walk-reverse, Walk-snoc, root-along}
use Rattle.dpl_stars.proofs.Search.{graph_of-distances, graph_of-root}
use Rattle.dpl_stars.specs.declared.list.Star.{Star}
use Rattle.dpl_stars.specs.Stars.{own_row, IsStarList}
use Rattle.dpl_stars.specs.Sums.{row_of}
use Rattle.dpl_stars.specs.Links.{star, AreMates, IsLinked, AreLinks}
use Rattle.dpl_stars.proofs.Relabel.{contains-map, contains-from_map}
use Rattle.dpl_stars.proofs.SameSums.{OddWalk, Carries, closed-odd}

-- one piece has one row
pub row-unique : (rows : List Star) → AllPairs (λ a b. a.piece < b.piece) rows → (s t : Star) → Contains rows s → Contains rows t → s.piece ≡ t.piece → s ≡ t
row-unique rows rising s t (i, i_in, i_is) (j, j_in, j_is) same = elim (cases_order i j) [
  | inl one ↦ sym i_is ∙ (get_or_default rows i s t i_in ∙ (ap (λ k. get_or rows k t) one ∙ j_is))
  | inr apart ↦ elim apart [
    | inl l ↦ (let up = rising i j t l j_in in
        let first : (get_or rows i t).piece ≡ s.piece = ap (λ (r : Star). r.piece) (get_or_default rows i t s i_in ∙ i_is) in
        let second : (get_or rows j t).piece ≡ t.piece = ap (λ (r : Star). r.piece) j_is in
        absurd (omega (arith, up, first, second, same)))
    | inr l ↦ (let up = rising j i s l i_in in
        let first : (get_or rows j s).piece ≡ t.piece = ap (λ (r : Star). r.piece) (get_or_default rows j s t j_in ∙ j_is) in
        let second : (get_or rows i s).piece ≡ s.piece = ap (λ (r : Star). r.piece) i_is in
        absurd (omega (arith, up, first, second, same)))
  ]
]

odd-is : (n : ℕ) → true ≡ (n % 2 == 1) → n % 2 ≡ 1
odd-is n e = eqb-true (n % 2) 1 (sym e)

even-is : (n : ℕ) → false ≡ (n % 2 == 1) → n % 2 ≡ 0
even-is n e = let no_odd : n % 2 ≡ 1 → ⊥ = eqb-false (n % 2) 1 (sym e) in elim (cases_eq (n % 2) 1) [ inl odd ↦ absurd (no_odd odd) | inr other ↦ omega (arith, other) ]

-- parities that differ
differ-odd : (a : Bool) (m n : ℕ) → a ≡ (m % 2 == 1) → not a ≡ (n % 2 == 1) → (m + n) % 2 ≡ 1
differ-odd true m n a b = let p = odd-is m a in let q = even-is n b in omega (arith, p, q)
differ-odd false m n a b = let p = even-is m a in let q = odd-is n b in omega (arith, p, q)

-- numbers of one parity
same-parity : (a i : ℕ) → (a % 2 == 1) ≡ (i % 2 == 1) → a % 2 ≡ i % 2
same-parity a i e = elim (cases_eq (a % 2) 1) [
  | inl odd ↦ odd ∙ sym (odd-is i (sym (eq-eqb (a % 2) 1 odd) ∙ e))
  | inr other ↦ (let q : i % 2 ≡ 0 = even-is i (sym (ne_eqb (a % 2) 1 other) ∙ e) in omega (arith, other, q))
]

parities : (a b i j : ℕ) → (a % 2 == 1) ≡ (i % 2 == 1) → (b % 2 == 1) ≡ (j % 2 == 1) → (a + b) % 2 ≡ 1 → (i + j) % 2 ≡ 1
parities a b i j p q odd = let x = same-parity a i p in let y = same-parity b j q in omega (arith, x, y, odd)

module _ (es : List (ℕ × ℕ)) (pairs : AreOrdered es) (rows : List Star) (stars : AreStars (graph_of es) (map row_of rows)) where
  star-of : (v r : ℕ) (odd : Bool) → Contains rows (star v r odd) → IsStar (graph_of es) v r odd
  star-of v r odd c = ((stars.exactly (row_of (star v r odd))).0 (contains-map row_of rows (star v r odd) c)).1

  -- mates have an odd walk between them
  pub mates-walk : (u v : ℕ) → AreMates rows u v → OddWalk (graph_of es) u v
  mates-walk u v (r, odd, first, second) =
      let (u_root, m, u_far, u_is) = star-of u r odd first in
      let (v_root, n, v_far, v_is) = star-of v r (not odd) second in
      (m + n, Walk-trans (graph_of es) (Walk-reverse (graph_of es) (graph_of-undirected es pairs) u_far.walk) v_far.walk, differ-odd odd m n u_is v_is)

  row-in : (v u r n : ℕ) → graph_of es v u → IsRoot (graph_of es) v r → IsDistance (graph_of es) r v n → Contains rows (star v r (n % 2 == 1))
  row-in v u r n e root far =
      let row : Row = row_of (star v r (n % 2 == 1)) in
      let (s, s_in, s_is) = contains-from_map row_of rows (own_row 0) row ((stars.exactly row).1 ((u, e), (root, n, far, refl))) in
      subst (λ t. Contains rows t) (let same : s ≡ star v r (n % 2 == 1) = λ k. record { piece = (s_is k).vertex; root = (s_is k).root; odd = (s_is k).odd } in same) s_in

  module _ (listed : IsStarList rows) (links : List (ℕ × ℕ)) (l : AreLinks rows rows links) where
    not-both : (v r : ℕ) → Contains rows (star v r true) → v ≡ r → ⊥
    not-both v r c same =
        let own : Contains rows (own_row r) = All-contains (λ s. Contains rows (own_row s.root)) rows (star v r true) listed.rooted c in
        let one : star v r true ≡ own_row r = row-unique rows listed.rising (star v r true) (own_row r) c own same in
        true≢false (ap (λ (s : Star). s.odd) one)

    odd-edge : (v r : ℕ) → Contains rows (star v r true) → graph_of links r v
    odd-edge v r c =
        let (u, next, joins) = All-contains (IsLinked rows links) rows (star v r true) l.linked c (not-both v r c) in
        elim next [
          | inl is ↦ subst (λ x. graph_of links x v) is.1 joins
          | inr is ↦ absurd (true≢false is.0)
        ]

    -- the links lead from a root to each of its pieces, by a walk of the right parity
    linked-walk : (v r : ℕ) (odd : Bool) → Contains rows (star v r odd) → (k : ℕ) × Walk (graph_of links) r v k × (odd ≡ (k % 2 == 1))
    linked-walk v r odd c = elim (cases_eq v r) [
      | inl same ↦ (let own : Contains rows (own_row r) = All-contains (λ s. Contains rows (own_row s.root)) rows (star v r odd) listed.rooted c in
          let one : star v r odd ≡ own_row r = row-unique rows listed.rising (star v r odd) (own_row r) c own same in
          (0, subst (λ x. Walk (graph_of links) r x 0) (sym same) stay, ap (λ (s : Star). s.odd) one))
      | inr apart ↦ (let (u, next, joins) = All-contains (IsLinked rows links) rows (star v r odd) l.linked c apart in
          elim next [
            | inl is ↦ (1, step (subst (λ x. graph_of links x v) is.1 joins) stay, is.0)
            | inr is ↦ (2, step (odd-edge u r is.1) (step joins stay), is.0)
          ])
    ]

    pub links-carried : Carries (graph_of links) (graph_of es)
    links-carried u v e = mates-walk u v (l.mates u v e)

    -- two pieces of one component whose parities differ
    between : (u v r a b : ℕ) → Contains rows (star u r (a % 2 == 1)) → Contains rows (star v r (b % 2 == 1)) → (a + b) % 2 ≡ 1 → OddWalk (graph_of links) u v
    between u v r a b first second odd =
        let (i, to_u, i_is) = linked-walk u r (a % 2 == 1) first in
        let (j, to_v, j_is) = linked-walk v r (b % 2 == 1) second in
        (i + j, Walk-trans (graph_of links) (Walk-reverse (graph_of links) (graph_of-undirected links l.pairs) to_u) to_v, parities a b i j i_is j_is odd)

    pub graph-carried : Carries (graph_of es) (graph_of links)
    graph-carried u v e =
        let un = graph_of-undirected es pairs in
        let (r, u_root) = graph_of-root es u in
        let (a, u_far) = graph_of-distances es r u u_root.reached.0 u_root.reached.1 in
        let v_root = root-along (graph_of es) un u v r (1, step e stay) u_root in
        let (b, v_far) = graph_of-distances es r v v_root.reached.0 v_root.reached.1 in
        let first = row-in u v r a e u_root u_far in
        let second = row-in v u r b (un.both u v e) v_root v_far in
        let odd : (a + b) % 2 ≡ 1 = elim (cases_eq ((a + b) % 2) 1) [
          | inl is ↦ is
          | inr other ↦ absurd
              (stars.even (closed-odd es pairs r (suc a + b) (Walk-trans (graph_of es) (Walk-snoc (graph_of es) u_far.walk e)
              (Walk-reverse (graph_of es) un v_far.walk)) (omega (arith, other))))
        ] in
        between u v r a b first second odd
