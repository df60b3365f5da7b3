-- What a sort by signed keys leaves.
use Rattle.std.proofs.Common.{◌≡◌, ◌⊎◌, inl, inr, List, get_or, true, false, cond, Ordering, refl, sym, arith}
use Rattle.std.specs.Prelude.{ℤ, int_lt, ◌≤ℤ◌, ◌<ℤ◌}
use Rattle.std.specs.Ordering.{is_lt, int_cmp, ordering_then, then_cmp, on}
use Rattle.std.specs.declared.cmp.Ordering.TheVariants.{Less, Equal, Greater}
use Rattle.std.specs.List.Sorted.{IsSortedByKey}
use Rattle.std.proofs.lemmas.Cmp.{int_ranked, int_cmp_total, then_total, on_total}
use Rattle.std.proofs.lemmas.List.Sorted.{sorted_far, ranks_by}
use Rattle.std.proofs.lemmas.Int.{ints}
use Rattle.std.specs.Int.{int_min}
use Rattle.dpl_spec_split.specs.declared.Rect.{Rect}
use Rattle.dpl_order.specs.Orders.{ColumnsRise, CornersRise}

pub at_most : (x y : ℤ) (r : Ordering) → r ≡ int_cmp x y → is_lt r ≡ false → y ≤ℤ x
at_most x y Less e h = cc
at_most x y Equal e h = let same : x ≡ y = int_ranked x y Equal e in omega (arith, ints)
at_most x y Greater e h = let l : y <ℤ x = int_ranked x y Greater e in omega (arith, ints)

-- what isn't before in the order of three keys
pub not_before3 : (a b c d e f : ℤ) (r s t : Ordering) → r ≡ int_cmp a b → s ≡ int_cmp c d → t ≡ int_cmp e f
    → is_lt (ordering_then (ordering_then r s) t) ≡ false → (b <ℤ a) ⊎ ((b ≡ a) × ((d <ℤ c) ⊎ ((d ≡ c) × (f ≤ℤ e))))
not_before3 a b c d e f Less s t er es et h = cc
not_before3 a b c d e f Greater s t er es et h = inl (int_ranked a b Greater er)
not_before3 a b c d e f Equal Less t er es et h = cc
not_before3 a b c d e f Equal Greater t er es et h = let same : a ≡ b = int_ranked a b Equal er in inr (sym same, inl (int_ranked c d Greater es))
not_before3 a b c d e f Equal Equal t er es et h =
    let same : a ≡ b = int_ranked a b Equal er in
    let too : c ≡ d = int_ranked c d Equal es in
    inr (sym same, inr (sym too, at_most e f t et h))

pub not_before2 : (a b c d : ℤ) (r s : Ordering) → r ≡ int_cmp a b → s ≡ int_cmp c d → is_lt (ordering_then r s) ≡ false → (b <ℤ a) ⊎ ((b ≡ a) × (d ≤ℤ c))
not_before2 a b c d Less s er es h = cc
not_before2 a b c d Greater s er es h = inl (int_ranked a b Greater er)
not_before2 a b c d Equal s er es h = let same : a ≡ b = int_ranked a b Equal er in inr (sym same, at_most c d s es h)

abbrev pub keys3 : ℤ × ℤ × ℤ → ℤ × ℤ × ℤ → Ordering
keys3 = then_cmp (then_cmp (on (λ k. k.0) int_cmp) (on (λ k. k.1) int_cmp)) (on (λ k. k.2) int_cmp)

abbrev pub keys2 : ℤ × ℤ → ℤ × ℤ → Ordering
keys2 = then_cmp (on (λ k. k.0) int_cmp) (on (λ k. k.1) int_cmp)

abbrev pub column_keys : Rect → ℤ × ℤ × ℤ
column_keys r = (r.x0, r.x1, r.y0)

abbrev pub corner_keys : Rect → ℤ × ℤ
corner_keys r = (r.y0, r.x0)

pub columns-rise : (xs : List Rect) → IsSortedByKey column_keys keys3 xs → ColumnsRise xs
columns-rise xs h i j d l within =
    let a : Rect = get_or xs i d in
    let b : Rect = get_or xs j d in
    let t = then_total (then_total (on_total (λ (k : ℤ × ℤ × ℤ). k.0) int_cmp_total) (on_total (λ (k : ℤ × ℤ × ℤ). k.1) int_cmp_total))
    (on_total (λ (k : ℤ × ℤ × ℤ). k.2) int_cmp_total) in
    not_before3 b.x0 a.x0 b.x1 a.x1 b.y0 a.y0 _ _ _ refl refl refl
    (sorted_far (λ p q. is_lt (keys3 (column_keys p) (column_keys q))) (ranks_by t column_keys) xs h i j d l within)

pub corners-rise : (xs : List Rect) → IsSortedByKey corner_keys keys2 xs → CornersRise xs
corners-rise xs h i j d l within =
    let a : Rect = get_or xs i d in
    let b : Rect = get_or xs j d in
    let t = then_total (on_total (λ (k : ℤ × ℤ). k.0) int_cmp_total) (on_total (λ (k : ℤ × ℤ). k.1) int_cmp_total) in
    not_before2 b.y0 a.y0 b.x0 a.x0 _ _ refl refl
    (sorted_far (λ p q. is_lt (keys2 (corner_keys p) (corner_keys q))) (ranks_by t corner_keys) xs h i j d l within)

-- the lesser of two rows above a row lies above it
pub min-above : (row x y : ℤ) → row <ℤ x → row <ℤ y → row <ℤ int_min x y
min-above row x y a b = elim (int_lt y x) as (λ z. row <ℤ cond z y x) [ true ↦ b | false ↦ a ]
