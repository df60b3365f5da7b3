-- One level after another.
use Rattle.std.proofs.Common.{◌≡◌, ◌∙◌, ℕ, suc, ◌+◌, ◌<◌, ◌≤◌, ◌++◌, inl, inr, List, [], drop, take, length, get_or, refl, sym, ap, subst, arith}
use Rattle.std.specs.List.{All, Contains}
use Rattle.std.proofs.lemmas.Bool.{cases_eq, cases_lt}
use Rattle.std.proofs.lemmas.List.{take-append-le, take_all}
use Rattle.std.proofs.lemmas.List.Elements.{Contains-get_or}
use Rattle.dpl_spec_split.specs.Graphs.{Graph, Walk, stay, step, IsDistance}
use Rattle.dpl_stars.proofs.Walks.{Walk-nowhere, Walk-snoc, distance-self, walk_to}
use Rattle.dpl_crowd.specs.Walking.{AreLevelsTo, IsBeside, IsFront, Meets, nowhere}

-- the number 0 alone
pub level-start : (joined : Graph) (n : ℕ) (levels : List ℕ) → length levels ≡ n → get_or levels 0 0 ≡ 0 → ((v : ℕ) → 0 < v → v < n → get_or levels v 0 ≡ nowhere) → AreLevelsTo joined 0 n 0 levels
level-start joined n levels many first others = record {
  as_many = many;
  known = λ v v_in l. elim (cases_eq v 0) [
    | inl e ↦
        let at : get_or levels v 0 ≡ 0 = ap (λ i. get_or levels i 0) e ∙ first in
        (subst (λ m. IsDistance joined 0 v m) (sym at) (subst (λ u. IsDistance joined 0 u 0) (sym e) (distance-self joined 0)), omega (arith, at))
    | inr ne ↦ absurd (let far = others v (omega (arith, ne)) v_in in omega (arith, far, l))
  ];
  none = λ v m v_in far low w.
      let e : 0 ≡ v = Walk-nowhere joined w (omega (arith, low)) in
      let at : get_or levels v 0 ≡ 0 = ap (λ i. get_or levels i 0) (sym e) ∙ first in
      omega (arith, at, far);
}

walk_last : (joined : Graph) {u v m : ℕ} (n : ℕ) → Walk joined u v m → m ≡ suc n → (p : ℕ) × Walk joined u p n × joined p v
walk_last joined n stay e = absurd (omega (arith, e))
walk_last joined n (step {u = u} {v = w} f stay) e = (u, walk_to joined n stay (omega (arith, e)), f)
walk_last joined n (step {u = u} {n = k} f (step {n = j} g rest)) e =
    let (p, before, last) = walk_last joined j (step g rest) refl in
    (p, walk_to joined n (step f before) (omega (arith, e)), last)

module _ (joined : Graph) (root n d : ℕ) (old new front none next : List ℕ) (below : (u v : ℕ) → joined u v → u < n) (h : AreLevelsTo joined root n d old)
    (is_front : IsFront d old front) (m : Meets (IsBeside joined front) (d + 1) old new none next) (low : d + 1 < nowhere) where
  known : (v : ℕ) → v < n → get_or new v 0 < nowhere → IsDistance joined root v (get_or new v 0) × (get_or new v 0 ≤ d + 1)
  known v v_in l = elim (m.each v) [
    | inl same ↦
        let (at, up) = h.known v v_in (omega (arith, same, l)) in
        (subst (λ k. IsDistance joined root v k) (sym same) at, omega (arith, same, up))
    | inr (o, new_is, (u, u_front, joins), i) ↦
        let many = h.as_many in
        let (u_in, u_level) = (is_front u).0 u_front in
        let (at, up) = h.known u (omega (arith, u_in, many)) (omega (arith, u_level, low)) in
        let to : Walk joined root u d = subst (λ k. Walk joined root u k) u_level at.walk in (
          subst (λ k. IsDistance joined root v k) (sym new_is) (record {
            walk = walk_to joined (d + 1) (Walk-snoc joined to joins) (omega arith);
            least = λ k w. elim (cases_lt d k) [
              | inl far ↦ omega (arith, far)
              | inr near ↦ absurd (h.none v k v_in (omega (arith, o)) near w)
            ];
          }),
          omega (arith, new_is),
        )
  ]

  farther : (v k : ℕ) → v < n → nowhere ≤ get_or new v 0 → k ≤ d + 1 → Walk joined root v k → ⊥
  farther v k v_in far up w =
      let many = h.as_many in
      let was : nowhere ≤ get_or old v 0 = elim (m.each v) [ inl same ↦ omega (arith, same, far) | inr (o, new_is, j, i) ↦ absurd (omega (arith, new_is, far, low)) ] in
      elim (cases_lt d k) [
        | inr near ↦ h.none v k v_in was near w
        | inl last ↦
            let (p, to, joins) = walk_last joined d w (omega (arith, last, up)) in
            let p_in = below p v joins in
            elim (cases_lt (get_or old p 0) nowhere) [
              | inr out ↦ h.none p d p_in out (omega arith) to
              | inl reached ↦
                  let (at, high) = h.known p p_in reached in
                  elim (cases_eq (get_or old p 0) d) [
                    | inl e ↦ let met = m.met v (p, (is_front p).1 (omega (arith, p_in, many), e), joins) (omega (arith, v_in, many)) in omega (arith, met, far)
                    | inr ne ↦ h.none v (suc (get_or old p 0)) v_in was (omega (arith, high, ne)) (Walk-snoc joined at.walk joins)
                  ]
            ]
      ]

  pub levels-next : AreLevelsTo joined root n (d + 1) new
  levels-next = record { as_many = m.as_many ∙ h.as_many; known = known; none = farther }

  pub front-next : none ≡ [] → IsFront (d + 1) new next
  front-next is v =
      let many = m.as_many in
      let same_many = h.as_many in (
        λ c. elim ((m.next v).0 c) [
          | inl e ↦ absurd (let (j, j_in, at) = subst (λ xs. Contains xs v) is e in omega (arith, j_in))
          | inr (i, o, new_is) ↦ (omega (arith, i, many), new_is)
        ],
        λ (i, new_is). elim (m.each v) [
          | inl same ↦ absurd (let up = (h.known v (omega (arith, i, many, same_many)) (omega (arith, same, new_is, low))).1 in omega (arith, up, same, new_is))
          | inr (o, also, k, l) ↦ (m.next v).1 (inr (l, o, new_is))
        ],
      )

-- the numbers of a level are known
pub front-known : (d : ℕ) (levels front : List ℕ) → IsFront d levels front → All (λ v. v < length levels) front
front-known d levels front is k e l = ((is (get_or front k e)).0 (Contains-get_or front k e l)).0

-- a slice of all items, put back
pub all-back : (new old : List ℕ) (n : ℕ) → length new ≡ n → take n (new ++ drop (length new) old) ≡ new
all-back new old n is = take-append-le n new (drop (length new) old) (omega (arith, is)) ∙ take_all n new (omega (arith, is))
