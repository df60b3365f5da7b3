-- Following parents from the ends of the least level edge until they meet.
use Rattle.std.proofs.Common.{◌≡◌, ◌≢◌, ◌∙◌, ℕ, suc, ◌+◌, ◌<◌, inl, inr, List, [], ◌∷◌, ◌++◌, reverse, length, length-append, get_or, refl, sym, ap, subst, arith}
use Rattle.std.proofs.lemmas.Bool.{cases_eq}
use Rattle.std.proofs.lemmas.List.{get_or_append_left, get_or_push, reverse-append}
use Rattle.dpl_spec_split.specs.Graphs.{Graph}
use Rattle.dpl_spec_split.specs.Cycle.{IsParent, Climb, last, up, IsReported}
use Rattle.dpl_stars.proofs.Walks.{distance-zero}
use Rattle.dpl_crowd.specs.Walking.{AreLevelsTo, IsLeastEdge, nowhere}

climb_snoc : (joined : Graph) (root top next : ℕ) {v : ℕ} {us : List ℕ} → Climb joined root top v us → IsParent joined root top next → Climb joined root next v (us ++ top ∷ [])
climb_snoc joined root top next (last p) parent = up p (last parent)
climb_snoc joined root top next (up p c) parent = up p (climb_snoc joined root top next c parent)

-- the way so far from v: none, or up to just below top
pub data Way (joined : Graph) (top v : ℕ) (us : List ℕ) : Type 0 where
  none : us ≡ [] → top ≡ v → Way joined top v us
  some : Climb joined 0 top v us → Way joined top v us

way_on : (joined : Graph) (top v next : ℕ) (us more : List ℕ) → Way joined top v us → IsParent joined 0 top next → more ≡ us ++ top ∷ [] → Way joined next v more
way_on joined top v next us more (none empty here) parent is =
    some (subst (λ xs. Climb joined 0 next v xs) (sym (is ∙ ap (λ xs. let ys : List ℕ = xs in ys ++ top ∷ []) empty))
    (subst (λ x. Climb joined 0 next v (x ∷ [])) (sym here) (last (subst (λ x. IsParent joined 0 x next) here parent))))
way_on joined top v next us more (some c) parent is = some (subst (λ xs. Climb joined 0 next v xs) (sym is) (climb_snoc joined 0 top next c parent))

pub record IsClimbing (joined : Graph) (levels : List ℕ) (u v top other : ℕ) (us vs : List ℕ) : Type 0 where
  pub top_in : top < length levels
  pub other_in : other < length levels
  pub reached : get_or levels top 0 < nowhere
  pub level : get_or levels other 0 ≡ get_or levels top 0
  pub meet : length us ≡ length vs
  pub apart : (k : ℕ) → k < length us → get_or us k 0 ≢ get_or vs k 0
  pub first : Way joined top u us
  pub second : Way joined other v vs

pub climb-start : (joined : Graph) (levels : List ℕ) (e : ℕ × ℕ) (us vs : List ℕ) → IsLeastEdge joined levels e → us ≡ [] → vs ≡ [] → IsClimbing joined levels e.0 e.1 e.0 e.1 us vs
climb-start joined levels e us vs edge us_none vs_none =
    let us_len : length us ≡ 0 = ap (λ xs. let ys : List ℕ = xs in length ys) us_none in
    let vs_len : length vs ≡ 0 = ap (λ xs. let ys : List ℕ = xs in length ys) vs_none in
    record {
      top_in = edge.first_in;
      other_in = edge.second_in;
      reached = edge.reached;
      level = edge.level;
      meet = us_len ∙ sym vs_len;
      apart = λ k l. absurd (omega (arith, l, us_len));
      first = none us_none refl;
      second = none vs_none refl;
    }

longer_length : (us more : List ℕ) (x : ℕ) → more ≡ us ++ x ∷ [] → length more ≡ suc (length us)
longer_length us more x is = ap (λ xs. let ys : List ℕ = xs in length ys) is ∙ (length-append us (x ∷ []) ∙ omega arith)

longer_before : (us more : List ℕ) (x k : ℕ) → more ≡ us ++ x ∷ [] → k < length us → get_or more k 0 ≡ get_or us k 0
longer_before us more x k is l = ap (λ xs. get_or xs k 0) is ∙ get_or_append_left us (x ∷ []) 0 k l

longer_last : (us more : List ℕ) (x k : ℕ) → more ≡ us ++ x ∷ [] → length us ≡ k → get_or more k 0 ≡ x
longer_last us more x k is e = ap (λ xs. get_or xs k 0) is ∙ get_or_push us x 0 k e

module _ (joined : Graph) (n d : ℕ) (levels : List ℕ) (h : AreLevelsTo joined 0 n d levels) where
  -- two numbers of one level that differ aren't number 0
  pub climb-high : {u v top other : ℕ} {us vs : List ℕ} → IsClimbing joined levels u v top other us vs → top ≢ other → 0 < get_or levels top 0
  climb-high {top = top} {other = other} c ne = elim (cases_eq (get_or levels top 0) 0) [
    | inr high ↦ omega (arith, high)
    | inl ground ↦
        let many = h.as_many in
        let top_in = c.top_in in
        let other_in = c.other_in in
        let level = c.level in
        let reached = c.reached in
        let a = (h.known top (omega (arith, top_in, many)) reached).0 in
        let b = (h.known other (omega (arith, other_in, many)) (omega (arith, level, reached))).0 in
        absurd (ne (sym (distance-zero joined 0 top (get_or levels top 0) a ground) ∙ distance-zero joined 0 other (get_or levels other 0) b (level ∙ ground)))
  ]

pub climb-step : (joined : Graph) (levels : List ℕ) (u v top other top' other' : ℕ) (us vs us' vs' : List ℕ) → IsClimbing joined levels u v top other us vs → top ≢ other
    → us' ≡ us ++ top ∷ [] → vs' ≡ vs ++ other ∷ [] → IsParent joined 0 top top' → IsParent joined 0 other other' → top' < length levels → other' < length levels
    → get_or levels top' 0 + 1 ≡ get_or levels top 0 → get_or levels other' 0 + 1 ≡ get_or levels other 0 → IsClimbing joined levels u v top' other' us' vs'
climb-step joined levels u v top other top' other' us vs us' vs' c ne us_is vs_is parent other_parent top_in other_in top_low other_low =
    let level = c.level in
    let reached = c.reached in
    let us_len = longer_length us us' top us_is in
    let vs_len = longer_length vs vs' other vs_is in
    let meet = c.meet in
    record {
      top_in = top_in;
      other_in = other_in;
      reached = omega (arith, top_low, reached);
      level = omega (arith, top_low, other_low, level);
      meet = omega (arith, us_len, vs_len, meet);
      apart = λ k l. elim (cases_eq k (length us)) [
        | inl at ↦ λ e. ne (sym (longer_last us us' top k us_is (sym at)) ∙ (e ∙ longer_last vs vs' other k vs_is (sym (at ∙ meet))))
        | inr other_place ↦
            let k_in : k < length us = omega (arith, l, us_len, other_place) in
            let k_also : k < length vs = omega (arith, k_in, meet) in
            λ e. c.apart k k_in (sym (longer_before us us' top k us_is k_in) ∙ (e ∙ longer_before vs vs' other k vs_is k_also))
      ];
      first = way_on joined top u top' us us' c.first parent us_is;
      second = way_on joined other v other' vs vs' c.second other_parent vs_is;
    }

-- they have met
closed_ways : (joined : Graph) (levels : List ℕ) (e : ℕ × ℕ) (top : ℕ) (us vs cycle : List ℕ) → IsLeastEdge joined levels e → Way joined top e.0 us → Way joined top e.1 vs
    → length us ≡ length vs → ((k : ℕ) → k < length us → get_or us k 0 ≢ get_or vs k 0) → cycle ≡ top ∷ reverse us ++ vs → IsReported joined cycle
closed_ways joined levels e top us vs cycle edge (none a b) (none c d) meet apart is = absurd
    (let order = edge.on.order in omega (arith, order, b, d))
closed_ways joined levels e top us vs cycle edge (none a b) (some (last p)) meet apart is = absurd
    (let l : length us ≡ 0 = ap (λ xs. let ys : List ℕ = xs in length ys) a in omega (arith, meet, l))
closed_ways joined levels e top us vs cycle edge (none a b) (some (up p c)) meet apart is = absurd
    (let l : length us ≡ 0 = ap (λ xs. let ys : List ℕ = xs in length ys) a in omega (arith, meet, l))
closed_ways joined levels e top us vs cycle edge (some (last p)) (none a b) meet apart is = absurd
    (let l : length vs ≡ 0 = ap (λ xs. let ys : List ℕ = xs in length ys) a in omega (arith, meet, l))
closed_ways joined levels e top us vs cycle edge (some (up p c)) (none a b) meet apart is = absurd
    (let l : length vs ≡ 0 = ap (λ xs. let ys : List ℕ = xs in length ys) a in omega (arith, meet, l))
closed_ways joined levels e top us vs cycle edge (some first) (some second) meet apart is = record {
  root = 0;
  edge = e;
  top = top;
  us = us;
  vs = vs;
  odd = record { has = (e, edge.on); least = λ r f level. omega arith };
  on = edge.on;
  least = edge.least;
  first = first;
  second = second;
  meet = meet;
  apart = apart;
  is = is;
}

pub climb-end : (joined : Graph) (levels : List ℕ) (e : ℕ × ℕ) (top other : ℕ) (us vs cycle : List ℕ) → IsLeastEdge joined levels e
    → IsClimbing joined levels e.0 e.1 top other us vs → top ≡ other → cycle ≡ reverse (us ++ top ∷ []) ++ vs → IsReported joined cycle
climb-end joined levels e top other us vs cycle edge c same is =
    closed_ways joined levels e top us vs cycle edge c.first (subst (λ x. Way joined x e.1 vs) (sym same) c.second) c.meet c.apart
    (is ∙ ap (λ xs. let ys : List ℕ = xs in ys ++ vs) (reverse-append us (top ∷ [])))
