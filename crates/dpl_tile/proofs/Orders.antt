-- Sorted pairs, each once.
use Rattle.std.proofs.Common.{◌≡◌, ℕ, ◌<◌, ◌⊎◌, inl, inr, Bool, true, Ordering, List, [], ◌∷◌, get_or, refl, ap, ◌∙◌, rules}
use Rattle.std.specs.Prelude.{◌↔◌, ◌==◌, ◌&&◌}
use Rattle.std.specs.Ordering.{nat_cmp, ordering_then, eq_by_cmp}
use Rattle.std.specs.declared.cmp.Ordering.TheVariants.{Less, Equal, Greater}
use Rattle.std.specs.List.{AllPairs, Contains, dedup}
use Rattle.std.specs.List.Sorted.{IsSorted, IsStrictlySortedBy, IsPermutation}
use Rattle.std.specs.Cmp.{IsTotalOrder, IsEquivalence, both_tied, unsigned_ties}
use Rattle.std.proofs.lemmas.Cmp.{ranked, nat_cmp_total, nat_eq_equiv, then_total, on_total, on_equiv, and_equiv}
use Rattle.std.proofs.lemmas.List.Kept.{IsStrictlySortedBy-dedup, AllPairs-cons, Contains-dedup, Contains-from_dedup}
use Rattle.std.proofs.lemmas.List.Sorted.{Contains-permutation, IsPermutation-sym}
use Rattle.std.proofs.lemmas.Map.Keys.{sorted_tail}
use Rattle.std.proofs.lemmas.Map.Views.{All-after_first}
use Rattle.dpl_spec_split.specs.Graphs.{Precedes}

abbrev pub pair_cmp : ℕ × ℕ → ℕ × ℕ → Ordering
pair_cmp x y = ordering_then (nat_cmp x.0 y.0) (nat_cmp x.1 y.1)

abbrev pub pair_eq : ℕ × ℕ → ℕ × ℕ → Bool
pair_eq x y = (x.0 == y.0) && (x.1 == y.1)

pair_total : IsTotalOrder pair_cmp
pair_total = then_total (on_total (λ t. t.0) nat_cmp_total) (on_total (λ t. t.1) nat_cmp_total)

pair_equiv : IsEquivalence pair_eq
pair_equiv = and_equiv (on_equiv (λ t. t.0) nat_eq_equiv) (on_equiv (λ t. t.1) nat_eq_equiv)

pair_ties : (x y : ℕ × ℕ) → pair_eq x y ≡ eq_by_cmp pair_cmp x y
pair_ties x y = both_tied _ _ _ (nat_cmp x.1 y.1) (unsigned_ties x.0 y.0) (unsigned_ties x.1 y.1)

pair_same : (x y : ℕ × ℕ) → pair_eq x y ≡ true → x ≡ y
pair_same x y h =
    let a : x.0 ≡ y.0 = search rules in
    let b : x.1 ≡ y.1 = search rules in
    ap (λ m. (m, x.1)) a ∙ ap (λ m. (y.0, m)) b

less : (x y z w : ℕ) (r s : Ordering) → r ≡ nat_cmp x y → s ≡ nat_cmp z w → ordering_then r s ≡ Less → (x < y) ⊎ ((x ≡ y) × (z < w))
less x y z w Less s e f h = inl (ranked x y Less e)
less x y z w Equal Less e f h = inr (ranked x y Equal e, ranked z w Less f)
less x y z w Equal Equal e f h = cc
less x y z w Equal Greater e f h = cc
less x y z w Greater s e f h = cc

rise : (xs : List (ℕ × ℕ)) → IsStrictlySortedBy pair_cmp xs → AllPairs Precedes xs
rise [] h = search rules
rise (x ∷ xs) h =
    AllPairs-cons Precedes x xs (λ k d l. less x.0 (get_or xs k d).0 x.1 (get_or xs k d).1 (nat_cmp x.0 (get_or xs k d).0)
    (nat_cmp x.1 (get_or xs k d).1) refl refl (All-after_first pair_cmp x xs h k d l))
    (rise xs (sorted_tail pair_cmp x xs h))

module _ (Kind : ℕ × ℕ → Type 0) (xs sorted ys : List (ℕ × ℕ)) (all : (e : ℕ × ℕ) → Contains xs e ↔ Kind e)
    (same : IsPermutation xs sorted) (rising : IsSorted pair_cmp sorted) (once : ys ≡ dedup pair_eq sorted) where
  pub pairs-members : (e : ℕ × ℕ) → Contains ys e ↔ Kind e
  pairs-members e =
      rw once (
        (λ h. (all e).0 (Contains-permutation sorted xs e (IsPermutation-sym xs sorted same) (Contains-from_dedup pair_eq sorted e h))),
        (λ h. Contains-dedup pair_equiv pair_same sorted e (Contains-permutation xs sorted e same ((all e).1 h))),
      )

  pub pairs-ordered : AllPairs Precedes ys
  pairs-ordered = rw once (rise (dedup pair_eq sorted) (IsStrictlySortedBy-dedup pair_total pair_ties sorted rising))
