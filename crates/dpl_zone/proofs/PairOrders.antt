-- What a sort by two signed keys leaves.
use Rattle.std.proofs.Common.{◌≡◌, ℕ, ◌<◌, ◌≤◌, ◌⊎◌, inl, inr, List, length, get_or, false, Ordering, sym, refl}
use Rattle.std.specs.Prelude.{ℤ, ◌≤ℤ◌, ◌<ℤ◌}
use Rattle.std.specs.Ordering.{is_lt, int_cmp, ordering_then}
use Rattle.std.specs.declared.cmp.Ordering.TheVariants.{Less, Equal, Greater}
use Rattle.std.specs.List.Sorted.{IsSortedByKey}
use Rattle.std.proofs.lemmas.Cmp.{int_ranked, int_cmp_total, then_total, on_total}
use Rattle.std.proofs.lemmas.List.Sorted.{sorted_far, ranks_by}
use Rattle.dpl_shade.proofs.Orders.{at_most}

abbrev pub pair_cmp : (ℤ × ℤ) → (ℤ × ℤ) → Ordering
pair_cmp x y = ordering_then (int_cmp x.0 y.0) (int_cmp x.1 y.1)

pair_at_most : (x y z w : ℤ) (r : Ordering) → r ≡ int_cmp x y → is_lt (ordering_then r (int_cmp z w)) ≡ false → (y <ℤ x) ⊎ ((y ≡ x) × (w ≤ℤ z))
pair_at_most x y z w Less e h = cc
pair_at_most x y z w Equal e h = let same : x ≡ y = int_ranked x y Equal e in inr (sym same, at_most z w (int_cmp z w) refl h)
pair_at_most x y z w Greater e h = let l : y <ℤ x = int_ranked x y Greater e in inl l

pub pairs-rise : {X : Type 0} (key : X → ℤ × ℤ) (xs : List X) → IsSortedByKey key pair_cmp xs → (i j : ℕ) (d : X) → i ≤ j → j < length xs
    → ((key (get_or xs i d)).0 <ℤ (key (get_or xs j d)).0) ⊎ (((key (get_or xs i d)).0 ≡ (key (get_or xs j d)).0) × ((key (get_or xs i d)).1 ≤ℤ (key (get_or xs j d)).1))
pairs-rise key xs h i j d l within =
    pair_at_most (key (get_or xs j d)).0 (key (get_or xs i d)).0 (key (get_or xs j d)).1 (key (get_or xs i d)).1 (int_cmp (key (get_or xs j d)).0 (key (get_or xs i d)).0) refl
    (sorted_far (λ a b. is_lt (pair_cmp (key a) (key b))) (ranks_by (then_total (on_total (λ t. t.0) int_cmp_total) (on_total (λ t. t.1) int_cmp_total)) key) xs h i j d l within)
