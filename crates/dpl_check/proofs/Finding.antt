-- The first bad item of a list.
use Rattle.std.proofs.Common.{◌≡◌, ℕ, zero, suc, ◌+◌, ◌<◌, ◌≤◌, inl, inr, List, [], ◌∷◌, length, get_or, Option, Some, None, sym, ◌∙◌, subst, arith}
use Rattle.std.specs.Prelude.{◌↔◌}
use Rattle.std.specs.List.{All, AllByRecursion}
use Rattle.std.proofs.lemmas.Bool.{cases_eq}
use Rattle.std.proofs.lemmas.List.{get_or_default}
use Rattle.dpl_spec_verdict.specs.Order.{HasBad, IsFirstBad}
use Rattle.dpl_check.specs.Findings.{IsFirstBadOf}

-- none of the first n is bad
abbrev pub NoneBelow : {X : Type 0} → (ℕ → X → Type 0) → List X → ℕ → Type 0
NoneBelow bad xs n = (j : ℕ) (d : _) → j < n → j < length xs → ¬ bad j (get_or xs j d)

pub none-more : {X : Type 0} (bad : ℕ → X → Type 0) (xs : List X) (n : ℕ) (x : X) → n < length xs → x ≡ get_or xs n x → (bad n x → ⊥)
    → NoneBelow bad xs n → NoneBelow bad xs (n + 1)
none-more bad xs n x n_in is good before j d l j_in = elim (cases_eq j n) [
  | inl e ↦ λ h. good (subst (λ y. bad n y) (get_or_default xs n d x n_in ∙ sym is) (subst (λ m. bad m (get_or xs m d)) e h))
  | inr ne ↦ before j d (omega (arith, l, ne)) j_in
]

pub first-found : {X : Type 0} (bad : ℕ → X → Type 0) (xs : List X) (n : ℕ) (x : X) → n < length xs → x ≡ get_or xs n x → bad n x → NoneBelow bad xs n → IsFirstBad bad xs n
first-found bad xs n x n_in is here before = record {
  inside = n_in;
  is = λ d. subst (λ y. bad n y) (is ∙ get_or_default xs n x d n_in) here;
  first = λ j d l. before j d l (omega (arith, l, n_in));
}

pub none-found : {X : Type 0} (bad : ℕ → X → Type 0) (xs : List X) (n : ℕ) → length xs ≤ n → X → NoneBelow bad xs n → HasBad bad xs → ⊥
none-found bad xs n all d before (k, k_in, is) = before k d (omega (arith, all, k_in)) k_in (is d)

-- what is bad by one word is bad by the other
pub first-same : {X : Type 0} (bad worse : ℕ → X → Type 0) (xs : List X) (o : Option ℕ) → ((k : ℕ) (d : X) → k < length xs → bad k (get_or xs k d) ↔ worse k (get_or xs k d))
    → IsFirstBadOf bad xs o → IsFirstBadOf worse xs o
first-same bad worse xs None same none = λ (k, k_in, is). none (k, k_in, λ d. (same k d k_in).1 (is d))
first-same bad worse xs (Some k) same first = record {
  inside = first.inside;
  is = λ d. (same k d first.inside).0 (first.is d);
  first = λ j d l h. first.first j d l ((same j d (let i = first.inside in omega (arith, l, i))).1 h);
}

pub all-items : {X : Type 0} (P : X → Type 0) (xs : List X) → AllByRecursion P xs → All P xs
all-items P [] h k d k_in = absurd (omega (arith, k_in))
all-items P (x ∷ xs) h zero d k_in = h.0
all-items P (x ∷ xs) h (suc k) d k_in = all-items P xs h.1 k d (omega (arith, k_in))
