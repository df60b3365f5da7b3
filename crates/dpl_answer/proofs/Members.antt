-- What lists have.
use Rattle.std.proofs.Common.{◌≡◌, ℕ, ◌<◌, List, [], ◌∷◌, Bool, true, cond, inl, inr, zero, suc, sym, ap, ◌∙◌, arith}
use Rattle.std.specs.List.{Any, Contains, filter, list_any}
use Rattle.std.proofs.lemmas.Bool.{cases_Bool}
use Rattle.std.proofs.lemmas.List.Elements.{All-contains, All-contains_itself, All-filter, filter_passes}
use Rattle.std.proofs.lemmas.List.Folds.{Any-from_list_any, list_any-from_Any}
use Rattle.std.proofs.lemmas.List.FromFn.{get_or-range_with_len, length-range_with_len}
use Rattle.dpl_answer.specs.Sheets.{below}

pub any-has : {X : Type 0} (P : X → Type 0) (xs : List X) → Any P xs → (x : X) × Contains xs x × P x
any-has P xs (k, x, l, is, p) = (x, (k, l, is), p)

pub has-any : {X : Type 0} (P : X → Type 0) (xs : List X) (x : X) → Contains xs x → P x → Any P xs
has-any P xs x (k, l, is) p = (k, x, l, is, p)

pub passed-has : {X : Type 0} (p : X → Bool) (xs : List X) → list_any p xs ≡ true → (x : X) × Contains xs x × (p x ≡ true)
passed-has p xs h = any-has (λ x. p x ≡ true) xs (Any-from_list_any p xs h)

pub has-passed : {X : Type 0} (p : X → Bool) (xs : List X) (x : X) → Contains xs x → p x ≡ true → list_any p xs ≡ true
has-passed p xs x c h = list_any-from_Any p xs (has-any (λ x. p x ≡ true) xs x c h)

pub kept-has : {X : Type 0} (p : X → Bool) (xs : List X) (x : X) → Contains (filter p xs) x → Contains xs x × (p x ≡ true)
kept-has p xs x c = (
  All-contains (Contains xs) (filter p xs) x (All-filter p (Contains xs) xs (All-contains_itself xs)) c,
  All-contains (λ y. p y ≡ true) (filter p xs) x (filter_passes p xs) c,
)

pub has-later : {X : Type 0} (y : X) (xs : List X) (x : X) → Contains xs x → Contains (y ∷ xs) x
has-later y xs x (k, l, is) = (suc k, omega (arith, l), is)

pub has-kept : {X : Type 0} (p : X → Bool) (xs : List X) (x : X) → Contains xs x → p x ≡ true → Contains (filter p xs) x
has-kept p [] x (k, l, is) h = absurd (omega (arith, l))
has-kept p (y ∷ xs) x (zero, l, is) h =
    let here : p y ≡ true = ap p is ∙ h in
    rw (ap (λ b. cond b (y ∷ filter p xs) (filter p xs)) here) (0, omega arith, is)
has-kept p (y ∷ xs) x (suc k, l, is) h =
    let rest = has-kept p xs x (k, omega (arith, l), is) h in
    elim (cases_Bool (p y)) [
      | inl passes ↦ rw (ap (λ b. cond b (y ∷ filter p xs) (filter p xs)) passes) (has-later y (filter p xs) x rest)
      | inr fails ↦ rw (ap (λ b. cond b (y ∷ filter p xs) (filter p xs)) fails) rest
    ]

pub below-has : (n k : ℕ) → k < n → Contains (below n) k
below-has n k l = (k, rw (length-range_with_len 0 n) l, get_or-range_with_len 0 n k k l ∙ omega arith)

pub has-below : (n k : ℕ) → Contains (below n) k → k < n
has-below n k (i, l, is) = let here : i < n = rw (← length-range_with_len 0 n) l in let same = sym (get_or-range_with_len 0 n i k here) ∙ is in omega (arith, here, same)
