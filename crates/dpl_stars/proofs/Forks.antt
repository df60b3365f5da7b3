-- Two paths of one length that meet, and the odd cycle that an edge between their ends closes.
use Rattle.std.proofs.Common.{◌≡◌, ◌≢◌, ℕ, zero, suc, ◌+◌, ◌-◌, ◌%◌, ◌<◌, inl, inr, List, [], ◌∷◌, ◌++◌, reverse, length, length-append, get_or, sym, refl, ap, subst, ◌∙◌, arith}
use Rattle.std.proofs.lemmas.Bool.{cases_eq, cases_lt}
use Rattle.std.proofs.lemmas.List.{get_or_default, get_or-reverse, length-reverse, get_or_append_left, get_or-append-add}
use Rattle.std.proofs.Math.Nat.{mod_self, mod-eq_of_lt}
use Rattle.std.specs.List.{All}
use Rattle.dpl_spec_split.specs.Graphs.{Graph, IsDistance, Reaches, IsOddCycle}
use Rattle.dpl_spec_split.specs.Cycle.{Climb, last, up, IsReported}
use Rattle.dpl_spec_split.proofs.GraphLaws.{distance-unique}
use Rattle.dpl_stars.specs.Laws.{HasLevelEdge, HasOddCycleAt}
use Rattle.dpl_stars.proofs.Walks.{IsUndirected, distance-zero, distance-before}

-- from each number to the next, and from the last to top, an edge leads one level lower
pub record IsPath (joined : Graph) (root top t : ℕ) (us : List ℕ) : Type 0 where
  pub some : 0 < length us
  pub levels : (k m : ℕ) → k < length us → m + k ≡ t + length us → IsDistance joined root (get_or us k 0) m
  pub joins : (k : ℕ) → suc k < length us → joined (get_or us k 0) (get_or us (suc k) 0)
  pub ends : (k : ℕ) → suc k ≡ length us → joined (get_or us k 0) top

distance_to : (joined : Graph) (root u m n : ℕ) → IsDistance joined root u m → m ≡ n → IsDistance joined root u n
distance_to joined root u m n a e = subst (λ k. IsDistance joined root u k) e a

one_levels : (joined : Graph) (root v t : ℕ) → IsDistance joined root v (suc t) → (k m : ℕ) → k < 1 → m + k ≡ t + 1 → IsDistance joined root (get_or (v ∷ []) k 0) m
one_levels joined root v t a zero m l e = distance_to joined root v (suc t) m a (omega arith)
one_levels joined root v t a (suc k) m l e = absurd (omega (arith, l))

one_ends : (joined : Graph) (top v : ℕ) → joined v top → (k : ℕ) → suc k ≡ 1 → joined (get_or (v ∷ []) k 0) top
one_ends joined top v e zero is = e
one_ends joined top v e (suc k) is = absurd (omega (arith, is))

pub path-one : (joined : Graph) (root top t v : ℕ) → joined v top → IsDistance joined root v (suc t) → IsPath joined root top t (v ∷ [])
path-one joined root top t v e a = record {
  some = omega arith;
  levels = one_levels joined root v t a;
  joins = λ k l. absurd (let m : suc k < 1 = l in omega (arith, m));
  ends = one_ends joined top v e;
}

more_levels : (joined : Graph) (root top t v : ℕ) (us : List ℕ) → IsPath joined root top t us
    → IsDistance joined root v (suc (t + length us)) → (k m : ℕ) → k < suc (length us) → m + k ≡ t + suc (length us)
    → IsDistance joined root (get_or (v ∷ us) k 0) m
more_levels joined root top t v us p a zero m l e = distance_to joined root v (suc (t + length us)) m a (omega arith)
more_levels joined root top t v us p a (suc k) m l e = p.levels k m (omega arith) (omega arith)

more_joins : (joined : Graph) (root top t v : ℕ) (us : List ℕ) → IsPath joined root top t us → joined v (get_or us 0 0) → (k : ℕ)
    → suc k < suc (length us) → joined (get_or (v ∷ us) k 0) (get_or us k 0)
more_joins joined root top t v us p e zero l = e
more_joins joined root top t v us p e (suc k) l = p.joins k (omega arith)

more_ends : (joined : Graph) (root top t v : ℕ) (us : List ℕ) → IsPath joined root top t us → (k : ℕ) → suc k ≡ suc (length us) → joined (get_or (v ∷ us) k 0) top
more_ends joined root top t v us p zero l = absurd (let s : 0 < length us = p.some in omega arith)
more_ends joined root top t v us p (suc k) l = p.ends k (omega arith)

pub path-more : (joined : Graph) (root top t v : ℕ) (us : List ℕ) → joined v (get_or us 0 0)
    → IsDistance joined root v (suc (t + length us)) → IsPath joined root top t us → IsPath joined root top t (v ∷ us)
path-more joined root top t v us e a p = record {
  some = omega arith;
  levels = more_levels joined root top t v us p a;
  joins = more_joins joined root top t v us p e;
  ends = more_ends joined root top t v us p;
}

-- two paths from u and v to where they meet
pub record Fork (joined : Graph) (root u v top : ℕ) (us vs : List ℕ) : Type 0 where
  pub t : ℕ
  pub level : IsDistance joined root top t
  pub first : IsPath joined root top t us
  pub second : IsPath joined root top t vs
  pub meet : length us ≡ length vs
  pub from_u : get_or us 0 0 ≡ u
  pub from_v : get_or vs 0 0 ≡ v
  pub apart : (k : ℕ) → k < length us → get_or us k 0 ≢ get_or vs k 0

-- what stands at a place of the cycle
data Place (top : ℕ) (us vs : List ℕ) (i x : ℕ) : Type 0 where
  at_top : i ≡ 0 → x ≡ top → Place top us vs i x
  at_first : (k : ℕ) → i + k ≡ length us → k < length us → x ≡ get_or us k 0 → Place top us vs i x
  at_second : (k : ℕ) → i ≡ suc (length us + k) → k < length vs → x ≡ get_or vs k 0 → Place top us vs i x

rest_place : (top : ℕ) (us vs : List ℕ) → length us ≡ length vs → (i d : ℕ) → i < length us + length vs → Place top us vs (suc i) (get_or (reverse us ++ vs) i d)
rest_place top us vs meet i d l =
    let len : length (reverse us) ≡ length us = length-reverse us in
    elim (cases_lt i (length us)) [
      | inl low ↦
          let k : ℕ = length us - 1 - i in
          let k_in : k < length us = omega arith in
          let within : i < length (reverse us) = omega arith in
          at_first k (omega arith) k_in (get_or_append_left (reverse us) vs d i within ∙ (get_or-reverse us i d low ∙ get_or_default us k d 0 k_in))
      | inr high ↦
          let k : ℕ = i - length us in
          let k_in : k < length vs = omega arith in
          let at : length (reverse us) + k ≡ i = omega arith in
          at_second k (omega arith) k_in (ap (λ j. get_or (reverse us ++ vs) j d) (sym at) ∙ (get_or-append-add (reverse us) vs k d ∙ get_or_default vs k d 0 k_in))
    ]

place : (top : ℕ) (us vs : List ℕ) → length us ≡ length vs → (i d : ℕ) → i < suc (length us + length vs) → Place top us vs i (get_or (top ∷ reverse us ++ vs) i d)
place top us vs meet zero d l = at_top refl refl
place top us vs meet (suc i) d l = rest_place top us vs meet i d (omega arith)

cycle_length : (top : ℕ) (us vs : List ℕ) → length (top ∷ reverse us ++ vs) ≡ suc (length us + length vs)
cycle_length top us vs = ap suc (length-append (reverse us) vs ∙ ap (λ n. n + length vs) (length-reverse us))

levels_differ : (joined : Graph) (root x y m n : ℕ) → IsDistance joined root x m → IsDistance joined root y n → m ≢ n → x ≢ y
levels_differ joined root x y m n a b ne e = ne (distance-unique joined root y m n (subst (λ z. IsDistance joined root z m) e a) b)

place_level : (joined : Graph) {root u v top : ℕ} {us vs : List ℕ} (f : Fork joined root u v top us vs) (i x : ℕ) → Place top us vs i x → (m : ℕ) × IsDistance joined root x m
place_level joined {root = root} f i x (at_top o e) = (f.t, subst (λ y. IsDistance joined root y f.t) (sym e) f.level)
place_level joined {root = root} {us = us} f i x (at_first k o l e) = (
  f.t + i,
  subst (λ y. IsDistance joined root y (f.t + i)) (sym e)
      (f.first.levels k (f.t + i) l (omega (arith, o))),
)
place_level joined {root = root} {us = us} {vs = vs} f i x (at_second k o l e) = let m : ℕ = f.t + (length vs - k) in
    (m, subst (λ y. IsDistance joined root y m) (sym e) (f.second.levels k m l (omega (arith, l))))

places_differ : (joined : Graph) {root u v top : ℕ} {us vs : List ℕ} (f : Fork joined root u v top us vs) (i j x y : ℕ) → i < j → Place top us vs i x → Place top us vs j y → x ≢ y
places_differ joined f i j x y l (at_top o e) (at_top p g) = absurd (omega (arith, l, o, p))
places_differ joined {root = root} f i j x y l (at_top o e) (at_first k p h g) =
    λ is. levels_differ joined root _ _ f.t (f.t + j) f.level (f.first.levels k (f.t + j) h (omega (arith, p))) (λ z. omega (arith, z, l)) (sym e ∙ (is ∙ g))
places_differ joined {root = root} {vs = vs} f i j x y l (at_top o e) (at_second k p h g) =
    λ is. levels_differ joined root _ _ f.t (f.t + (length vs - k)) f.level
    (f.second.levels k (f.t + (length vs - k)) h (omega (arith, h))) (λ z. omega (arith, z, h)) (sym e ∙ (is ∙ g))
places_differ joined f i j x y l (at_first k o h e) (at_top p g) = absurd (omega (arith, l, p))
places_differ joined {root = root} f i j x y l (at_first k o h e) (at_first m p q g) =
    λ is. levels_differ joined root _ _ (f.t + i) (f.t + j) (f.first.levels k (f.t + i) h (omega (arith, o)))
    (f.first.levels m (f.t + j) q (omega (arith, p))) (λ z. omega (arith, z, l)) (sym e ∙ (is ∙ g))
places_differ joined {root = root} {us = us} {vs = vs} f i j x y l (at_first k o h e) (at_second m p q g) =
    let n : ℕ = f.t + (length vs - m) in
    elim (cases_eq k m) [
      | inl same ↦ λ is. f.apart k h (sym e ∙ (is ∙ (g ∙ ap (λ a. get_or vs a 0) (sym same))))
      | inr ne ↦ λ is. levels_differ joined root _ _ (f.t + i) n (f.first.levels k (f.t + i) h (omega (arith, o)))
          (f.second.levels m n q (omega (arith, q))) (λ z. ne (let meet = f.meet in omega (arith, z, o, q, meet))) (sym e ∙ (is ∙ g))
    ]
places_differ joined f i j x y l (at_second k o h e) (at_top p g) = absurd (omega (arith, l, p))
places_differ joined f i j x y l (at_second k o h e) (at_first m p q g) = absurd (omega (arith, l, o, p))
places_differ joined {root = root} {us = us} {vs = vs} f i j x y l (at_second k o h e) (at_second m p q g) =
    λ is. levels_differ joined root _ _ (f.t + (length vs - k)) (f.t + (length vs - m))
    (f.second.levels k (f.t + (length vs - k)) h (omega (arith, h))) (f.second.levels m (f.t + (length vs - m)) q (omega (arith, q)))
    (λ z. omega (arith, z, l, o, p, h, q)) (sym e ∙ (is ∙ g))

joined_as : (joined : Graph) (a b x y : ℕ) → joined a b → x ≡ a → y ≡ b → joined x y
joined_as joined a b x y h e g = subst (λ p. joined p y) (sym e) (subst (λ q. joined a q) (sym g) h)

next_joined : (joined : Graph) → IsUndirected joined → {root u v top : ℕ} {us vs : List ℕ} (f : Fork joined root u v top us vs)
    → joined u v → (i j x y : ℕ) → j ≡ suc i → Place top us vs i x → Place top us vs j y → joined x y
next_joined joined un f uv i j x y is (at_top o e) (at_top p g) = absurd (omega (arith, is, o, p))
next_joined joined un f uv i j x y is (at_top o e) (at_first k p h g) = joined_as joined _ _ x y (un.both _ _ (f.first.ends k (omega (arith, is, o, p)))) e g
next_joined joined un {us = us} {vs = vs} f uv i j x y is (at_top o e) (at_second k p h g) = absurd (let meet = f.meet in omega (arith, is, o, p, h, meet))
next_joined joined un f uv i j x y is (at_first k o h e) (at_top p g) = absurd (omega (arith, is, p))
next_joined joined un {us = us} f uv i j x y is (at_first k o h e) (at_first m p q g) =
    let one : k ≡ suc m = omega (arith, is, o, p) in
    let within : suc m < length us = omega (arith, h, one) in
    joined_as joined _ _ x y (un.both _ _ (f.first.joins m within)) (e ∙ ap (λ a. get_or us a 0) one) g
next_joined joined un {us = us} {vs = vs} f uv i j x y is (at_first k o h e) (at_second m p q g) =
    let k_none : k ≡ 0 = omega (arith, is, o, p) in
    let m_none : m ≡ 0 = omega (arith, is, o, p) in
    joined_as joined _ _ x y uv (e ∙ (ap (λ a. get_or us a 0) k_none ∙ f.from_u)) (g ∙ (ap (λ a. get_or vs a 0) m_none ∙ f.from_v))
next_joined joined un f uv i j x y is (at_second k o h e) (at_top p g) = absurd (omega (arith, is, p))
next_joined joined un f uv i j x y is (at_second k o h e) (at_first m p q g) = absurd (omega (arith, is, o, p))
next_joined joined un {us = us} {vs = vs} f uv i j x y is (at_second k o h e) (at_second m p q g) =
    let one : m ≡ suc k = omega (arith, is, o, p) in
    let within : suc k < length vs = omega (arith, q, one) in
    joined_as joined _ _ x y (f.second.joins k within) e (g ∙ ap (λ a. get_or vs a 0) one)

last_joined : (joined : Graph) {root u v top : ℕ} {us vs : List ℕ} (f : Fork joined root u v top us vs) → (i x : ℕ) → i ≡ length us + length vs → Place top us vs i x → joined x top
last_joined joined {us = us} {vs = vs} f i x is (at_top o e) = absurd (let s = f.first.some in omega (arith, is, o, s))
last_joined joined {us = us} {vs = vs} f i x is (at_first k o h e) = absurd (let s = f.second.some in omega (arith, is, o, s))
last_joined joined {us = us} {vs = vs} f i x is (at_second k o h e) = joined_as joined _ _ x _ (f.second.ends k (omega (arith, is, o))) e refl

around_it : (joined : Graph) → IsUndirected joined → {root u v top : ℕ} {us vs : List ℕ} (f : Fork joined root u v top us vs) → joined u v
    → (n : ℕ) → n ≡ suc (length us + length vs) → (i : ℕ) → i < n
    → joined (get_or (top ∷ reverse us ++ vs) i 0) (get_or (top ∷ reverse us ++ vs) ((i + 1) % n) 0)
around_it joined un {top = top} {us = us} {vs = vs} f uv n len i l =
    let here = place top us vs f.meet i 0 (let e = len in omega (arith, e, l)) in
    elim (cases_lt (i + 1) n) [
      | inl low ↦
          let next : (i + 1) % n ≡ suc i = mod-eq_of_lt low ∙ omega arith in
          let there = place top us vs f.meet (suc i) 0 (omega (arith, len, low)) in
          subst (λ j. joined (get_or (top ∷ reverse us ++ vs) i 0) (get_or (top ∷ reverse us ++ vs) j 0)) (sym next) (next_joined joined un f uv i (suc i) _ _ refl here there)
      | inr high ↦
          let at_end : i + 1 ≡ n = omega (arith, l, high) in
          let next : (i + 1) % n ≡ 0 = ap (λ k. k % n) at_end ∙ mod_self n in
          subst (λ j. joined (get_or (top ∷ reverse us ++ vs) i 0) (get_or (top ∷ reverse us ++ vs) j 0)) (sym next) (last_joined joined f i _ (omega (arith, at_end, len)) here)
    ]

pub fork-cycle : (joined : Graph) → IsUndirected joined → {root u v top : ℕ} {us vs : List ℕ} (f : Fork joined root u v top us vs)
    → joined u v → IsOddCycle joined (top ∷ reverse us ++ vs)
fork-cycle joined un {top = top} {us = us} {vs = vs} f uv =
    let len : length (top ∷ reverse us ++ vs) ≡ suc (length us + length vs) = cycle_length top us vs in
    let some = f.first.some in
    let meet = f.meet in
    record {
      three = omega (arith, len, some, meet);
      odd = ap (λ k. k % 2) len ∙ (let e : suc (length us + length vs) % 2 ≡ 1 = omega (arith, meet) in e);
      different = λ i j d l within. places_differ joined f i j _ _ l (place top us vs meet i d (omega (arith, len, l, within)))
          (place top us vs meet j d (omega (arith, len, within)));
      around = around_it joined un f uv (length (top ∷ reverse us ++ vs)) len;
    }

pub fork-reached : (joined : Graph) {root u v top : ℕ} {us vs : List ℕ} (f : Fork joined root u v top us vs) → All (λ w. Reaches joined root w) (top ∷ reverse us ++ vs)
fork-reached joined {top = top} {us = us} {vs = vs} f k d within =
    let len : length (top ∷ reverse us ++ vs) ≡ suc (length us + length vs) = cycle_length top us vs in
    let (m, a) = place_level joined f k _ (place top us vs f.meet k d (omega (arith, len, within))) in
    (m, a.walk)

-- two numbers of one level have paths that meet
one_apart : (u v : ℕ) → u ≢ v → (k : ℕ) → k < 1 → get_or (u ∷ []) k 0 ≢ get_or (v ∷ []) k 0
one_apart u v ne zero l = ne
one_apart u v ne (suc k) l = absurd (omega (arith, l))

more_apart : (u v : ℕ) (us vs : List ℕ) → u ≢ v → ((k : ℕ) → k < length us → get_or us k 0 ≢ get_or vs k 0) → (k : ℕ) → k < suc (length us)
    → get_or (u ∷ us) k 0 ≢ get_or (v ∷ vs) k 0
more_apart u v us vs ne rest zero l = ne
more_apart u v us vs ne rest (suc k) l = rest k (omega arith)

Forked : Graph → ℕ → ℕ → ℕ → Type 0
Forked joined root u v = (top : ℕ) × (us : List ℕ) × (vs : List ℕ) × Fork joined root u v top us vs

fork_one : (joined : Graph) (root u v p n : ℕ) → u ≢ v → joined u p → joined v p → IsDistance joined root p n
    → IsDistance joined root u (suc n) → IsDistance joined root v (suc n) → Fork joined root u v p (u ∷ []) (v ∷ [])
fork_one joined root u v p n ne e g at a b = record {
  t = n;
  level = at;
  first = path-one joined root p n u e a;
  second = path-one joined root p n v g b;
  meet = refl;
  from_u = refl;
  from_v = refl;
  apart = one_apart u v ne;
}

longer : (joined : Graph) (root u p top t n : ℕ) (us : List ℕ) → joined u p → IsDistance joined root p n → IsDistance joined root u (suc n)
    → IsPath joined root top t us → get_or us 0 0 ≡ p → IsPath joined root top t (u ∷ us)
longer joined root u p top t n us e at a path from =
    let some = path.some in
    let same : n ≡ t + length us = distance-unique joined root p n (t + length us) at
    (subst (λ x. IsDistance joined root x (t + length us)) from (path.levels 0 (t + length us) some (omega arith))) in
    path-more joined root top t u us (subst (λ x. joined u x) (sym from) e) (distance_to joined root u (suc n) (suc (t + length us)) a (omega arith)) path

fork_more : (joined : Graph) (root u v p q n top : ℕ) (us vs : List ℕ) → u ≢ v → joined u p → joined v q → IsDistance joined root p n
    → IsDistance joined root q n → IsDistance joined root u (suc n) → IsDistance joined root v (suc n)
    → Fork joined root p q top us vs → Fork joined root u v top (u ∷ us) (v ∷ vs)
fork_more joined root u v p q n top us vs ne e g at bt a b f = record {
  t = f.t;
  level = f.level;
  first = longer joined root u p top f.t n us e at a f.first f.from_u;
  second = longer joined root v q top f.t n vs g bt b f.second f.from_v;
  meet = ap suc f.meet;
  from_u = refl;
  from_v = refl;
  apart = more_apart u v us vs ne f.apart;
}

forked : (joined : Graph) → IsUndirected joined → (root n u v : ℕ) → u ≢ v → IsDistance joined root u n → IsDistance joined root v n → Forked joined root u v
unfolding Forked
forked joined un root zero u v ne a b = absurd (ne (sym (distance-zero joined root u 0 a refl) ∙ distance-zero joined root v 0 b refl))
forked joined un root (suc n) u v ne a b =
    let (p, e, at) = distance-before joined un root u (suc n) n a refl in
    let (q, g, bt) = distance-before joined un root v (suc n) n b refl in
    elim (cases_eq p q) [
      | inl same ↦ (p, u ∷ [], v ∷ [], fork_one joined root u v p n ne e (subst (λ x. joined v x) (sym same) g) at a b)
      | inr other ↦
          let (top, us, vs, f) = forked joined un root n p q other at bt in
          (top, u ∷ us, v ∷ vs, fork_more joined root u v p q n top us vs ne e g at bt a b f)
    ]

pub level-cycle : (joined : Graph) → IsUndirected joined → (root : ℕ) → HasLevelEdge joined root → HasOddCycleAt joined root
unfolding Forked
level-cycle joined un root (e, is) =
    let (n, a, b) = is.level in
    let order = is.order in
    let (top, us, vs, f) = forked joined un root n e.0 e.1 (λ same. omega (arith, order, same)) a b in
    (top ∷ reverse us ++ vs, fork-cycle joined un f is.joined_by, fork-reached joined f)

-- climbing through parents is a path
climb_top : (joined : Graph) {root top v : ℕ} {us : List ℕ} → Climb joined root top v us → (t : ℕ) × IsDistance joined root top t
climb_top joined (last p) = (p.level.0, p.level.1)
climb_top joined (up p c) = climb_top joined c

climb_from : (joined : Graph) {root top v : ℕ} {us : List ℕ} → Climb joined root top v us → get_or us 0 0 ≡ v
climb_from joined (last p) = refl
climb_from joined (up p c) = refl

climb_path : (joined : Graph) {root top v : ℕ} (t : ℕ) {us : List ℕ} → IsDistance joined root top t → Climb joined root top v us → IsPath joined root top t us
climb_path joined {root = root} {top = top} {v = v} t at (last p) =
    let (n, above, below) = p.level in
    let same : n ≡ t = distance-unique joined root top n t above at in
    path-one joined root top t v p.joined_by (distance_to joined root v (n + 1) (suc t) below (omega arith))
climb_path joined {root = root} {top = top} {v = v} t at (up {u = u} {us = us} p c) =
    let (n, above, below) = p.level in
    longer joined root v u top t n us p.joined_by above (distance_to joined root v (n + 1) (suc n) below (omega arith)) (climb_path joined t at c) (climb_from joined c)

pub reported-odd : (joined : Graph) → IsUndirected joined → (cycle : List ℕ) → IsReported joined cycle → IsOddCycle joined cycle
reported-odd joined un cycle r =
    let (t, at) = climb_top joined r.first in
    let f : Fork joined r.root r.edge.0 r.edge.1 r.top r.us r.vs = record {
      t = t;
      level = at;
      first = climb_path joined t at r.first;
      second = climb_path joined t at r.second;
      meet = r.meet;
      from_u = climb_from joined r.first;
      from_v = climb_from joined r.second;
      apart = r.apart;
    } in
    subst (λ c. IsOddCycle joined c) (sym r.is) (fork-cycle joined un f r.on.joined_by)
