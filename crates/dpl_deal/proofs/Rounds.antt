-- What is dealt round by round.
use Rattle.std.proofs.Common.{◌≡◌, ◌≢◌, ◌∙◌, ◌+◌, ◌%◌, ◌<◌, ◌≤◌, ◌==◌, ℕ, zero, suc, true, false, List, [], ◌∷◌, length, get_or, refl, ap, arith, ⊎_elim}
use Rattle.std.specs.Prelude.{if◌then◌else◌}
use Rattle.std.proofs.lemmas.Bool.{cases_lt}
use Rattle.std.proofs.lemmas.Bool.Decides.{nat_tests}
use mathlib.Core.Logic.{dite}
use native.Mathlib.Decide.{ℕ_discrete}
use Rattle.dpl_deal.specs.declared.view.PassView.{PassView}
use Rattle.dpl_deal.specs.Rule.{once_below, times, total}
use Rattle.dpl_deal.specs.Hands.{dealt_times, dealt_to}
use Rattle.dpl_deal.proofs.Moves.{times-append}

abbrev sum_to : (ℕ → ℕ) → ℕ → ℕ → ℕ
sum_to f base zero = 0
sum_to f base (suc k) = f base + sum_to f (suc base) k

total_by : (f : PassView → ℕ) (g : ℕ → ℕ) (base : ℕ) (vs : List PassView) → ((i : ℕ) (d : PassView) → i < length vs → f (get_or vs i d) ≡ g (base + i)) → total f vs ≡ sum_to g base (length vs)
total_by f g base [] h = refl
total_by f g base (v ∷ vs) h =
    let z : base + 0 ≡ base = omega arith in
    let a : f v ≡ g base = h 0 v (omega arith) ∙ ap g z in
    let r = total_by f g (suc base) vs (λ i d lt. h (suc i) d (omega arith) ∙ ap g (let e : base + suc i ≡ suc base + i = omega arith in e)) in omega arith

sum_zero : (f : ℕ → ℕ) → ((i : ℕ) → f i ≡ 0) → (base k : ℕ) → sum_to f base k ≡ 0
sum_zero f z base zero = refl
sum_zero f z base (suc k) = let a = z base in let r = sum_zero f z (suc base) k in omega arith

sum_add : (f g h : ℕ → ℕ) → ((i : ℕ) → h i ≡ f i + g i) → (base k : ℕ) → sum_to h base k ≡ sum_to f base k + sum_to g base k
sum_add f g h e base zero = refl
sum_add f g h e base (suc k) = let a = e base in let r = sum_add f g h e (suc base) k in omega arith

abbrev hit : ℕ → ℕ → ℕ → ℕ → ℕ
hit r n x i = times x (if r == i then n ∷ [] else [])

hit_other : (r n x i : ℕ) → r ≢ i → hit r n x i ≡ 0
hit_other r n x i ne = let e : (r == i) ≡ false = grind (arith, nat_tests) in rw e refl

hit_here : (r n x i : ℕ) → r ≡ i → hit r n x i ≡ times x (n ∷ [])
hit_here r n x i is = let e : (r == i) ≡ true = grind (arith, nat_tests) in rw e refl

sum_miss : (r n x base k : ℕ) → r < base → sum_to (hit r n x) base k ≡ 0
sum_miss r n x base zero lt = refl
sum_miss r n x base (suc k) lt =
    let a = hit_other r n x base (λ e. absurd (omega (arith, e, lt))) in let s = sum_miss r n x (suc base) k (omega arith) in omega arith

sum_hit : (r n x base k : ℕ) → base ≤ r → r < base + k → sum_to (hit r n x) base k ≡ times x (n ∷ [])
sum_hit r n x base zero le lt = absurd (omega arith)
sum_hit r n x base (suc k) le lt = dite (ℕ_discrete r base)
    (λ (e : r ≡ base). let a = hit_here r n x base e in let s = sum_miss r n x (suc base) k (omega (arith, e)) in omega (arith, a, s))
    (λ (ne : r ≢ base). let a = hit_other r n x base ne in let s = sum_hit r n x (suc base) k (above r base le ne) (omega arith) in omega (arith, a, s))
  where
    above : (r base : ℕ) → base ≤ r → r ≢ base → suc base ≤ r
    above r base le ne = ⊎_elim (λ (a : base < r). omega arith) (λ (b : r ≤ base). absurd (ne (omega arith))) (cases_lt base r)

once_more : (n x : ℕ) → once_below (suc n) x ≡ once_below n x + times x (n ∷ [])
once_more n x = grind (arith, nat_tests)

once_none : (x : ℕ) → 0 ≡ once_below 0 x
once_none x = grind (arith, nat_tests)

dealt_sum : (n w x : ℕ) → 0 < w → sum_to (λ i. times x (dealt_to n w i)) 0 w ≡ once_below n x
dealt_sum zero w x some = sum_zero (λ i. times x (dealt_to zero w i)) (λ i. refl) 0 w ∙ once_none x
dealt_sum (suc n) w x some =
    let a = sum_add (λ i. times x (dealt_to n w i)) (hit (n % w) n x) (λ i. times x (dealt_to (suc n) w i))
    (λ i. times-append x (dealt_to n w i) (if n % w == i then n ∷ [] else [])) 0 w in
    let r = dealt_sum n w x some in
    let lt : n % w < w = omega (arith, some) in
    let s = sum_hit (n % w) n x 0 w (omega arith) (omega (arith, lt)) in
    a ∙ omega (arith, r, s, once_more n x)

-- what was dealt round by round to so many hands is each number once
pub dealt_once : (n x : ℕ) (vs : List PassView) → 0 < length vs
    → ((i : ℕ) (d : PassView) → i < length vs → (get_or vs i d).dealt ≡ dealt_to n (length vs) i) → dealt_times x vs ≡ once_below n x
dealt_once n x vs some h =
    total_by (λ v. times x v.dealt) (λ i. times x (dealt_to n (length vs) i)) 0 vs (λ i d lt. ap (times x) (h i d lt)
    ∙ (let e : i ≡ 0 + i = omega arith in ap (λ (k : ℕ). times x (dealt_to n (length vs) k)) e))
    ∙ dealt_sum n (length vs) x some
