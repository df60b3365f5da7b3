-- Pairs of numbers, in order.
use Rattle.std.proofs.Common.{◌≡◌, ℕ, ◌<◌, ◌+◌, List, [], ◌∷◌, ◌++◌, map, inl, inr, zero, suc, refl, ap, arith}
use Rattle.std.specs.List.{All, AllPairs, Contains, flat_map, range_with_len}
use Rattle.std.proofs.lemmas.List.Elements.{All-nil, All-append, All-head, All-map, All-tail, All-weaker}
use Rattle.std.proofs.lemmas.List.FromFn.{get_or-range_with_len, length-range_with_len}
use Rattle.std.proofs.lemmas.List.Kept.{AllPairs-cons}
use Rattle.dpl_spec_split.specs.Graphs.{Precedes}
use Rattle.dpl_board.proofs.Flats.{from-flat, in-flat}
use Rattle.dpl_answer.specs.Sheets.{below, pairs_below}
use Rattle.dpl_spec_split.proofs.Ordered.{has-map, map-has}
use Rattle.dpl_answer.proofs.Members.{below-has, has-below}

abbrev Rising : List ℕ → Type 0
Rising [] = Unit {0}
Rising (i ∷ is) = All (λ k. i < k) is × Rising is

rising-from : (a n : ℕ) → Rising (range_with_len a n)
rising-from a zero = tt
rising-from a (suc n) = (
  λ k d l. (let short : k < n = rw (← length-range_with_len (a + 1) n) l in let at = get_or-range_with_len (a + 1) n k d short in omega (arith, at)),
  rising-from (a + 1) n,
)

abbrev row : List ℕ → ℕ → List (ℕ × ℕ)
row js i = map (λ (j : ℕ). (i, j)) js

row-then : (i : ℕ) (js : List ℕ) (rest : List (ℕ × ℕ)) → Rising js → AllPairs Precedes rest → All (λ (e : ℕ × ℕ). i < e.0) rest → AllPairs Precedes (row js i ++ rest)
row-then i [] rest rising ordered after = ordered
row-then i (j ∷ js) rest (later, rising) ordered after =
    AllPairs-cons Precedes (i, j) (row js i ++ rest)
    (All-append (Precedes (i, j)) (row js i) rest (All-map (Precedes (i, j)) (λ (j : ℕ). (i, j)) js (λ k d l. inr (refl, later k d l)))
    (All-weaker (λ (e : ℕ × ℕ). i < e.0) (Precedes (i, j)) (λ e l. inl l) rest after))
    (row-then i js rest rising ordered after)

rows-after : (i : ℕ) (is js : List ℕ) → All (λ k. i < k) is → All (λ (e : ℕ × ℕ). i < e.0) (flat_map (row js) is)
rows-after i [] js all = All-nil (λ (e : ℕ × ℕ). i < e.0)
rows-after i (x ∷ is) js all =
    All-append (λ (e : ℕ × ℕ). i < e.0) (row js x) (flat_map (row js) is) (All-map (λ (e : ℕ × ℕ). i < e.0) (λ (j : ℕ). (x, j)) js
    (λ k d l. All-head (λ k. i < k) x is all)) (rows-after i is js (All-tail (λ k. i < k) x is all))

rows-ordered : (is js : List ℕ) → Rising is → Rising js → AllPairs Precedes (flat_map (row js) is)
rows-ordered [] js first second = λ i j d l m. absurd (omega (arith, m))
rows-ordered (i ∷ is) js (later, first) second = row-then i js (flat_map (row js) is) second (rows-ordered is js first second) (rows-after i is js later)

pub pairs-ordered : (n : ℕ) → AllPairs Precedes (pairs_below n)
pairs-ordered n = rows-ordered (below n) (below n) (rising-from 0 n) (rising-from 0 n)

pub has-pair : (n i j : ℕ) → i < n → j < n → Contains (pairs_below n) (i, j)
has-pair n i j first second = in-flat (row (below n)) (below n) i (i, j) (below-has n i first) (map-has (λ (j : ℕ). (i, j)) (below n) j (i, j) (below-has n j second) refl)

pub pair-below : (n : ℕ) (e : ℕ × ℕ) → Contains (pairs_below n) e → (e.0 < n) × (e.1 < n)
pair-below n e c =
    let (i, in_below, in_row) = from-flat (row (below n)) (below n) e c in
    let (j, also, is) = has-map (λ (j : ℕ). (i, j)) (below n) e in_row in
    let first : i ≡ e.0 = ap (λ (d : ℕ × ℕ). d.0) is in
    let second : j ≡ e.1 = ap (λ (d : ℕ × ℕ). d.1) is in
    (rw (← first) (has-below n i in_below), rw (← second) (has-below n j also))
