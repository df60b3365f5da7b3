-- Rows that are put one behind another.
use Rattle.std.proofs.Common.{◌≡◌, ◌∙◌, ◌+◌, ◌*◌, ℕ, zero, suc, List, [], ◌∷◌, ◌++◌, length, refl, sym, ap, subst, append_assoc, append-nil, arith}
use Rattle.std.proofs.lemmas.List.{length-append, map-append}
use Rattle.std.proofs.lemmas.List.Folds.{concat-append}
use Rattle.dpl_spec_split.specs.declared.Rect.{Rect}
use Rattle.dpl_masks.specs.Bytes.{boundary_bytes, boundaries_bytes, closing_bytes, coordinate_bytes}
use Rattle.dpl_demo.specs.Demo.{bars, demo_file, opening_bytes, gap_by, next_number, number_of, row_bars}

element_size : (layer : ℕ) (r : Rect) → length (boundary_bytes layer r) ≡ 64
unfolding boundary_bytes coordinate_bytes
element_size layer r = refl

-- two elements put
pub two_puts : (old mid new : List ℕ) (r s left right : Rect) → left ≡ r → right ≡ s → mid ≡ old ++ boundary_bytes 1 left
    → new ≡ mid ++ boundary_bytes 1 right → new ≡ old ++ boundaries_bytes 1 (r ∷ s ∷ [])
two_puts old mid new r s left right is_r is_s e f =
    let put : new ≡ (old ++ boundary_bytes 1 r) ++ boundary_bytes 1 s = f ∙ ap (λ x. mid ++ boundary_bytes 1 x) is_s
    ∙ ap (λ x. x ++ boundary_bytes 1 s) (e ∙ ap (λ x. old ++ boundary_bytes 1 x) is_r) in
    put ∙ simp (append_assoc, append-nil)

pub bytes_of_two : (rs ss : List Rect) → boundaries_bytes 1 (rs ++ ss) ≡ boundaries_bytes 1 rs ++ boundaries_bytes 1 ss
bytes_of_two rs ss = rw (map-append, concat-append) refl

pub first_number : (seed : ℕ) → seed ≡ number_of seed 0
unfolding number_of
first_number seed = refl

number_suc : (seed i : ℕ) → next_number (number_of seed i) ≡ number_of seed (suc i)
unfolding number_of
number_suc seed i = refl

-- the number behind the i-th one
pub number_more : (seed i number next : ℕ) → number ≡ number_of seed i → next ≡ next_number number → next ≡ number_of seed (i + 1)
number_more seed i number next is by = by ∙ ap next_number is ∙ number_suc seed i ∙ ap (number_of seed) (omega arith)

bars_suc : (seed i : ℕ) → bars seed (suc i) ≡ bars seed i ++ row_bars i (gap_by (number_of seed (suc i)))
unfolding bars
bars_suc seed i = refl

bars_more : (seed i : ℕ) → bars seed (i + 1) ≡ bars seed i ++ row_bars i (gap_by (number_of seed (i + 1)))
bars_more seed i = subst (λ n. bars seed n ≡ bars seed i ++ row_bars i (gap_by (number_of seed n))) (omega arith) (bars_suc seed i)

-- one more row's bytes
pub row_more : (seed i : ℕ) (old new : List ℕ) (number gap : ℕ) → number ≡ number_of seed (i + 1) → gap ≡ gap_by number
    → old ≡ opening_bytes ++ boundaries_bytes 1 (bars seed i) → new ≡ old ++ boundaries_bytes 1 (row_bars i gap)
    → new ≡ opening_bytes ++ boundaries_bytes 1 (bars seed (i + 1))
row_more seed i old new number gap is by e f =
    let same : gap ≡ gap_by (number_of seed (i + 1)) = by ∙ ap gap_by is in
    let row = row_bars i (gap_by (number_of seed (i + 1))) in
    let whole : boundaries_bytes 1 (bars seed (i + 1)) ≡ boundaries_bytes 1 (bars seed i) ++ boundaries_bytes 1 row = ap
    (boundaries_bytes 1) (bars_more seed i) ∙ bytes_of_two (bars seed i) row in
    f ∙ ap (λ g. old ++ boundaries_bytes 1 (row_bars i g)) same ∙ ap (λ x. x ++ boundaries_bytes 1 row) e ∙ append_assoc opening_bytes
    (boundaries_bytes 1 (bars seed i)) (boundaries_bytes 1 row) ∙ ap (λ x. opening_bytes ++ x) (sym whole)

-- the records before the elements
pub opening_put : (seed : ℕ) (old new : List ℕ) → old ≡ [] → new ≡ old ++ opening_bytes → new ≡ opening_bytes ++ boundaries_bytes 1 (bars seed 0)
unfolding bars
opening_put seed old new e f = f ∙ ap (λ x. x ++ opening_bytes) e ∙ sym (append-nil opening_bytes)

row_size : (r s : Rect) → length (boundaries_bytes 1 (r ∷ s ∷ [])) ≡ 128
row_size r s = length-append (boundary_bytes 1 r) (boundary_bytes 1 s ++ []) ∙ ap (λ n. length (boundary_bytes 1 r) + n) (length-append (boundary_bytes 1 s) [])
    ∙ ap (λ n. n + (length (boundary_bytes 1 s) + 0)) (element_size 1 r) ∙ ap (λ n. 64 + (n + 0)) (element_size 1 s)

bars_size : (seed i : ℕ) → length (boundaries_bytes 1 (bars seed i)) ≡ 128 * i
unfolding bars
bars_size seed zero = omega arith
bars_size seed (suc i) =
    let row = row_bars i (gap_by (number_of seed (suc i))) in
    let whole = ap length (bytes_of_two (bars seed i) row) ∙ length-append (boundaries_bytes 1 (bars seed i)) (boundaries_bytes 1 row) in
    let before = bars_size seed i in
    let last : length (boundaries_bytes 1 row) ≡ 128 = row_size _ _ in
    omega (arith, whole, before, last)

-- how long the file is
pub file_size : (seed rows : ℕ) → length (demo_file seed rows) ≡ 106 + 128 * rows
file_size seed rows =
    let a = length-append opening_bytes (boundaries_bytes 1 (bars seed rows) ++ closing_bytes) in
    let b = length-append (boundaries_bytes 1 (bars seed rows)) closing_bytes in
    let c = bars_size seed rows in
    omega (arith, a, b, c)

pub all_put : (seed rows : ℕ) (old new : List ℕ) → old ≡ opening_bytes ++ boundaries_bytes 1 (bars seed rows) → new ≡ old ++ closing_bytes → new ≡ demo_file seed rows
all_put seed rows old new e f = f ∙ ap (λ x. x ++ closing_bytes) e ∙ append_assoc opening_bytes (boundaries_bytes 1 (bars seed rows)) closing_bytes
