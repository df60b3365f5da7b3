-- What sorts leave, of spans and by a signed key.
use Rattle.std.proofs.Common.{◌≡◌, ℕ, ◌<◌, ◌≤◌, List, length, get_or, true, false, Result, Ok, Err, Ordering, refl, arith}
use Rattle.std.specs.Prelude.{ℤ, ◌≤ℤ◌, ◌<ℤ◌, ◌↔◌}
use Rattle.std.specs.Result.{OnOk, is_ok}
use Rattle.std.specs.Ordering.{is_lt, int_cmp}
use Rattle.std.specs.declared.cmp.Ordering.TheVariants.{Less, Equal, Greater}
use Rattle.std.specs.List.Sorted.{IsPermutation, IsSortedByKey}
use Rattle.std.proofs.lemmas.Cmp.{int_ranked, int_cmp_total}
use Rattle.std.proofs.lemmas.Int.{ints}
use Rattle.std.proofs.lemmas.List.Sorted.{IsPermutation-sym, Contains-permutation, All-permutation, sorted_far, ranks_by}
use Rattle.dpl_shade.specs.declared.rows.Span.{Span}
use Rattle.dpl_shade.specs.Rows.{SomeRow, AreTall}

pub tall-sorted : (spans sorted : List Span) → IsPermutation spans sorted → AreTall spans → AreTall sorted
tall-sorted spans sorted same tall = All-permutation (λ s. s.from <ℤ s.to) spans sorted same tall

some-sorted : (spans sorted : List Span) (y : ℤ) → IsPermutation spans sorted → SomeRow spans y → SomeRow sorted y
some-sorted spans sorted y same (k, s, k_in, k_is, has) =
    let (m, m_in, m_is) = Contains-permutation spans sorted s same (k, k_in, k_is) in (m, s, m_in, m_is, has)

pub rows-sorted : (spans sorted : List Span) (D : ℤ → Type 0) → IsPermutation spans sorted → ((y : ℤ) → SomeRow spans y ↔ D y) → (y : ℤ) → SomeRow sorted y ↔ D y
rows-sorted spans sorted D same h y =
    (λ r. (h y).0 (some-sorted sorted spans y (IsPermutation-sym spans sorted same) r), λ d. some-sorted spans sorted y same ((h y).1 d))

pub at_most : (x y : ℤ) (r : Ordering) → r ≡ int_cmp x y → is_lt r ≡ false → y ≤ℤ x
at_most x y Less e h = cc
at_most x y Equal e h = let same : x ≡ y = int_ranked x y Equal e in omega (arith, ints)
at_most x y Greater e h = let l : y <ℤ x = int_ranked x y Greater e in omega (arith, ints)

-- a list that a sort by one signed key left rises by that key
pub rise-from_sorted : {X : Type 0} (key : X → ℤ) (xs : List X) → IsSortedByKey key int_cmp xs → (i j : ℕ) (d : X) → i ≤ j → j < length xs
    → key (get_or xs i d) ≤ℤ key (get_or xs j d)
rise-from_sorted key xs h i j d l within =
    at_most (key (get_or xs j d)) (key (get_or xs i d)) (int_cmp (key (get_or xs j d)) (key (get_or xs i d))) refl
    (sorted_far (λ a b. is_lt (int_cmp (key a) (key b))) (ranks_by int_cmp_total key) xs h i j d l within)

-- what is said of a call that didn't fail
pub ok-said : {X E P : Type 0} (r : Result X E) → is_ok r ≡ true → OnOk r P → P
ok-said (Ok x) e said = said
ok-said (Err f) e said = absurd cc
