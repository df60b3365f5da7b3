-- Following parents from two numbers of one level until they meet.
use Rattle.std.proofs.Common.{◌≡◌, ◌≢◌, ℕ, suc, ◌+◌, ◌<◌, inl, inr, List, [], ◌∷◌, ◌++◌, reverse, length, length-append, get_or, sym, refl, ap, subst, ◌∙◌, arith}
use Rattle.std.proofs.lemmas.Bool.{cases_eq}
use Rattle.std.proofs.lemmas.List.{get_or_append_left, get_or_push}
use Rattle.std.proofs.lemmas.List.{reverse-append}
use Rattle.dpl_odd.specs.Paths.{IsForest, IsPathTo, last, up, IsClosed}

path_snoc : (parents : List ℕ) {top v : ℕ} {us : List ℕ} (next : ℕ) → IsPathTo parents top v us → get_or parents top 0 ≡ next → IsPathTo parents next v (us ++ top ∷ [])
path_snoc parents next (last e) is = up e (last is)
path_snoc parents next (up e p) is = up e (path_snoc parents next p is)

-- the way so far from v: none, or a path to top
pub data Way (parents : List ℕ) (top v : ℕ) (us : List ℕ) : Type 0 where
  none : us ≡ [] → top ≡ v → Way parents top v us
  some : IsPathTo parents top v us → Way parents top v us

way_on : (parents : List ℕ) (top v next : ℕ) (us us' : List ℕ) → Way parents top v us → get_or parents top 0 ≡ next → us' ≡ us ++ top ∷ [] → Way parents next v us'
way_on parents top v next us us' (none empty here) is longer =
    some (subst (λ xs. IsPathTo parents next v xs) (sym (longer ∙ ap (λ xs. let ys : List ℕ = xs in ys ++ top ∷ []) empty))
    (subst (λ x. IsPathTo parents next v (x ∷ [])) (sym here) (last (ap (λ x. get_or parents x 0) (sym here) ∙ is))))
way_on parents top v next us us' (some p) is longer = some (subst (λ xs. IsPathTo parents next v xs) (sym longer) (path_snoc parents next p is))

pub record IsClimbing (n : ℕ) (roots levels parents : List ℕ) (u v top other : ℕ) (us vs : List ℕ) : Type 0 where
  pub top_in : top < n
  pub other_in : other < n
  pub root : get_or roots top 0 ≡ get_or roots other 0
  pub level : get_or levels top 0 ≡ get_or levels other 0
  pub meet : length us ≡ length vs
  pub height : get_or levels top 0 + length us ≡ get_or levels u 0
  pub apart : (k : ℕ) → k < length us → get_or us k 0 ≢ get_or vs k 0
  pub first : Way parents top u us
  pub second : Way parents other v vs

pub climb-start : (n : ℕ) (roots levels parents : List ℕ) (u v : ℕ) (us vs : List ℕ) → u < n → v < n → get_or roots u 0 ≡ get_or roots v 0
    → get_or levels u 0 ≡ get_or levels v 0 → us ≡ [] → vs ≡ [] → IsClimbing n roots levels parents u v u v us vs
climb-start n roots levels parents u v us vs u_in v_in root level us_none vs_none =
    let us_len : length us ≡ 0 = ap (λ xs. let ys : List ℕ = xs in length ys) us_none in
    let vs_len : length vs ≡ 0 = ap (λ xs. let ys : List ℕ = xs in length ys) vs_none in
    record {
      top_in = u_in;
      other_in = v_in;
      root = root;
      level = level;
      meet = us_len ∙ sym vs_len;
      height = omega (arith, us_len);
      apart = λ k l. absurd (omega (arith, l, us_len));
      first = none us_none refl;
      second = none vs_none refl;
    }

-- two numbers of one level that differ are no roots
pub climb-high : (n : ℕ) (roots levels parents : List ℕ) (u v top other : ℕ) (us vs : List ℕ) → IsForest n roots levels parents
    → IsClimbing n roots levels parents u v top other us vs → top ≢ other → 0 < get_or levels top 0
climb-high n roots levels parents u v top other us vs f c ne = elim (cases_eq (get_or levels top 0) 0) [
  | inl ground_level ↦
      let also : get_or levels other 0 ≡ 0 = sym c.level ∙ ground_level in
      absurd (ne (sym (f.tops top c.top_in ground_level) ∙ (c.root ∙ f.tops other c.other_in also)))
  | inr high ↦ omega (arith, high)
]

longer_length : (us us' : List ℕ) (x : ℕ) → us' ≡ us ++ x ∷ [] → length us' ≡ suc (length us)
longer_length us us' x is = ap (λ xs. let ys : List ℕ = xs in length ys) is ∙ (length-append us (x ∷ []) ∙ omega arith)

longer_before : (us us' : List ℕ) (x k : ℕ) → us' ≡ us ++ x ∷ [] → k < length us → get_or us' k 0 ≡ get_or us k 0
longer_before us us' x k is l = ap (λ xs. get_or xs k 0) is ∙ get_or_append_left us (x ∷ []) 0 k l

longer_last : (us us' : List ℕ) (x k : ℕ) → us' ≡ us ++ x ∷ [] → length us ≡ k → get_or us' k 0 ≡ x
longer_last us us' x k is e = ap (λ xs. get_or xs k 0) is ∙ get_or_push us x 0 k e

pub climb-step : (n : ℕ) (roots levels parents : List ℕ) (u v top other top' other' : ℕ) (us vs us' vs' : List ℕ)
    → IsForest n roots levels parents → IsClimbing n roots levels parents u v top other us vs → top ≢ other
    → us' ≡ us ++ top ∷ [] → vs' ≡ vs ++ other ∷ [] → top' ≡ get_or parents top 0 → other' ≡ get_or parents other 0 → IsClimbing n roots levels parents u v top' other' us' vs'
climb-step n roots levels parents u v top other top' other' us vs us' vs' f c ne us_is vs_is top_is other_is =
    let high = climb-high n roots levels parents u v top other us vs f c ne in
    let level = c.level in
    let high_too : 0 < get_or levels other 0 = omega (arith, high, level) in
    let top_low : get_or levels top 0 ≡ suc (get_or levels top' 0) = f.lower top c.top_in high ∙ ap (λ p. suc (get_or levels p 0)) (sym top_is) in
    let other_low : get_or levels other 0 ≡ suc (get_or levels other' 0) = f.lower other c.other_in high_too ∙ ap (λ p. suc (get_or levels p 0)) (sym other_is) in
    let us_len = longer_length us us' top us_is in
    let vs_len = longer_length vs vs' other vs_is in
    let meet = c.meet in
    let height = c.height in
    record {
      top_in = subst (λ p. p < n) (sym top_is) (f.inside top c.top_in high);
      other_in = subst (λ p. p < n) (sym other_is) (f.inside other c.other_in high_too);
      root = ap (λ p. get_or roots p 0) top_is ∙ (f.same top c.top_in high ∙ (c.root ∙ (sym (f.same other c.other_in high_too) ∙ ap (λ p. get_or roots p 0) (sym other_is))));
      level = omega (arith, top_low, other_low, level);
      meet = omega (arith, us_len, vs_len, meet);
      height = omega (arith, us_len, top_low, height);
      apart = λ k l. elim (cases_eq k (length us)) [
        | inl at ↦ λ e. ne (sym (longer_last us us' top k us_is (sym at)) ∙ (e ∙ longer_last vs vs' other k vs_is (sym (at ∙ meet))))
        | inr other_place ↦
            let k_in : k < length us = omega (arith, l, us_len, other_place) in
            let k_also : k < length vs = omega (arith, k_in, meet) in
            λ e. c.apart k k_in (sym (longer_before us us' top k us_is k_in) ∙ (e ∙ longer_before vs vs' other k vs_is k_also))
      ];
      first = way_on parents top u top' us us' c.first (sym top_is) us_is;
      second = way_on parents other v other' vs vs' c.second (sym other_is) vs_is;
    }

-- they have met
closed_as : (levels parents : List ℕ) (u v top : ℕ) (us vs cycle : List ℕ) → IsPathTo parents top u us → IsPathTo parents top v vs
    → length us ≡ length vs → get_or levels top 0 + length us ≡ get_or levels u 0
    → ((k : ℕ) → k < length us → get_or us k 0 ≢ get_or vs k 0) → cycle ≡ top ∷ reverse us ++ vs → IsClosed levels parents u v cycle
closed_as levels parents u v top us vs cycle first second meet height apart is = record {
  top = top;
  us = us;
  vs = vs;
  first = first;
  second = second;
  meet = meet;
  height = height;
  apart = apart;
  is = is;
}

closed_ways : (levels parents : List ℕ) (u v top : ℕ) (us vs cycle : List ℕ) → u ≢ v → Way parents top u us → Way parents top v vs
    → length us ≡ length vs → get_or levels top 0 + length us ≡ get_or levels u 0
    → ((k : ℕ) → k < length us → get_or us k 0 ≢ get_or vs k 0) → cycle ≡ top ∷ reverse us ++ vs → IsClosed levels parents u v cycle
closed_ways levels parents u v top us vs cycle ne (none a b) (none c d) meet height apart is = absurd (ne (sym b ∙ d))
closed_ways levels parents u v top us vs cycle ne (none a b) (some (last e)) meet height apart is = absurd
    (let l : length us ≡ 0 = ap (λ xs. let ys : List ℕ = xs in length ys) a in omega (arith, meet, l))
closed_ways levels parents u v top us vs cycle ne (none a b) (some (up e p)) meet height apart is = absurd
    (let l : length us ≡ 0 = ap (λ xs. let ys : List ℕ = xs in length ys) a in omega (arith, meet, l))
closed_ways levels parents u v top us vs cycle ne (some (last e)) (none a b) meet height apart is = absurd
    (let l : length vs ≡ 0 = ap (λ xs. let ys : List ℕ = xs in length ys) a in omega (arith, meet, l))
closed_ways levels parents u v top us vs cycle ne (some (up e p)) (none a b) meet height apart is = absurd
    (let l : length vs ≡ 0 = ap (λ xs. let ys : List ℕ = xs in length ys) a in omega (arith, meet, l))
closed_ways levels parents u v top us vs cycle ne (some p) (some q) meet height apart is = closed_as levels parents u v top us vs cycle p q meet height apart is

pub climb-end : (n : ℕ) (roots levels parents : List ℕ) (u v top other : ℕ) (us vs cycle : List ℕ) → u ≢ v
    → IsClimbing n roots levels parents u v top other us vs → top ≡ other → cycle ≡ reverse (us ++ top ∷ []) ++ vs
    → IsClosed levels parents u v cycle
climb-end n roots levels parents u v top other us vs cycle ne c same is =
    closed_ways levels parents u v top us vs cycle ne c.first (subst (λ x. Way parents x v vs) (sym same) c.second) c.meet c.height c.apart
    (is ∙ ap (λ xs. let ys : List ℕ = xs in ys ++ vs) (reverse-append us (top ∷ [])))
