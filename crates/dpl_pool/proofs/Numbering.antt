-- The numbering of many jobs' tiles: each number is of one tile.
use Rattle.std.proofs.Common.{◌≡◌, ◌+◌, ◌-◌, ◌<◌, ◌≤◌, ℕ, zero, suc, true, false, List, [], ◌∷◌, length, get_or, take, refl, sym, ap, subst, arith, ⊎_elim, leb}
use Rattle.std.specs.List.Sorted.{IsNonDecreasingBy, IsPartitionPoint, IsPartitionedBy}
use Rattle.std.proofs.lemmas.Bool.{cases_lt}
use Rattle.std.proofs.lemmas.Bool.Decides.{nat_tests}
use Rattle.std.proofs.lemmas.List.{take_all}
use Rattle.std.proofs.lemmas.List.Sums.{sum_by-cons, sum_by_more, sum_by-take-le}
use Rattle.std.proofs.lemmas.List.Sorted.{IsPartitionedBy-leb}
use Rattle.dpl_board.specs.Sheets.{Sheet}
use Rattle.dpl_pool.specs.declared.numbers.Numbers.{Numbers}
use Rattle.dpl_pool.specs.Numbering.{IsNumbered, IsPlace, tile_count, tiles_before}

pub before_next : (sheets : List Sheet) (j : ℕ) → j < length sheets → tiles_before (j + 1) sheets ≡ tiles_before j sheets + length (get_or sheets j [])
before_next sheets j lt = sum_by_more (λ (s : Sheet). length s) sheets j [] lt

pub before_all : (sheets : List Sheet) (n : ℕ) → length sheets ≤ n → tiles_before n sheets ≡ tile_count sheets
before_all sheets n le = ap tile_count (take_all n sheets le)

pub before_within : (sheets : List Sheet) (n : ℕ) → tiles_before n sheets ≤ tile_count sheets
before_within sheets n = sum_by-take-le (λ (s : Sheet). length s) sheets n

before_rises : (sheets : List Sheet) (i j : ℕ) → i ≤ j → tiles_before i sheets ≤ tiles_before j sheets
before_rises sheets zero j le = omega arith
before_rises [] (suc i) zero le = absurd (omega arith)
before_rises [] (suc i) (suc j) le = omega arith
before_rises (s ∷ ss) (suc i) zero le = absurd (omega arith)
before_rises (s ∷ ss) (suc i) (suc j) le =
    let r = before_rises ss i j (omega arith) in
    let f : Sheet → ℕ = λ (x : Sheet). length x in
    omega (arith, r, sum_by-cons f s (take i ss), sum_by-cons f s (take j ss))

past : (sheets : List Sheet) (j : ℕ) → length sheets ≤ j → length (get_or sheets j []) ≡ 0
past [] zero le = refl
past [] (suc j) le = refl
past (s ∷ ss) zero le = absurd (omega arith)
past (s ∷ ss) (suc j) le = past ss j (omega arith)

-- a place is one of the sheets
pub place_within : (sheets : List Sheet) (number j k : ℕ) → IsPlace sheets number j k → j < length sheets
place_within sheets number j k p = ⊎_elim (λ (lt : j < length sheets). lt)
    (λ (le : length sheets ≤ j). absurd (let z = past sheets j le in let b = p.below in omega (arith, z, b)))
    (cases_lt j (length sheets))

no_later : (sheets : List Sheet) (number i k j l : ℕ) → IsPlace sheets number i k → IsPlace sheets number j l → j ≤ i
no_later sheets number i k j l p q = ⊎_elim
    (λ (lt : i < j). absurd (
    let n = before_next sheets i (place_within sheets number i k p) in
    let r = before_rises sheets (i + 1) j (omega arith) in
    let a = p.below in let b = p.sum in let c = q.sum in omega (arith, n, r, a, b, c)))
    (λ (le : j ≤ i). le) (cases_lt i j)

-- a number is of one place
pub place_unique : (sheets : List Sheet) (number i k j l : ℕ) → IsPlace sheets number i k → IsPlace sheets number j l → (i ≡ j) × (k ≡ l)
place_unique sheets number i k j l p q =
    let e : i ≡ j = (let a = no_later sheets number i k j l p q in let b = no_later sheets number j l i k q p in omega (arith, a, b)) in
    (e, (let a = p.sum in let b = q.sum in let c = ap (λ (n : ℕ). tiles_before n sheets) e in omega (arith, a, b, c)))

-- a place's number is below the count
pub place_below : (sheets : List Sheet) (number j k : ℕ) → IsPlace sheets number j k → number < tile_count sheets
place_below sheets number j k p =
    let lt = place_within sheets number j k p in
    let n = before_next sheets j lt in
    let t = before_within sheets (j + 1) in
    let a = p.below in let b = p.sum in omega (arith, n, t, a, b)

-- the first numbers don't fall
firsts_rise : (sheets : List Sheet) (n : Numbers) → IsNumbered sheets n → IsNonDecreasingBy (λ (x : ℕ). x) n.firsts.items
firsts_rise sheets n h i j d le lt =
    let a = h.firsts i d (omega arith) in
    let b = h.firsts j d lt in
    let r = before_rises sheets i j le in omega (arith, a, b, r)

pub firsts_parted : (sheets : List Sheet) (n : Numbers) (number : ℕ) → IsNumbered sheets n → IsPartitionedBy (λ (x : ℕ). leb x number) n.firsts.items
firsts_parted sheets n number h = IsPartitionedBy-leb (λ (x : ℕ). x) n.firsts.items number (firsts_rise sheets n h)

-- The last job whose first number isn't above it has the tile
pub record Found (sheets : List Sheet) (n : Numbers) (number p : ℕ) : Type 0 where
  pub some : 0 < p
  pub low : (d : ℕ) → get_or n.firsts.items (p - 1) d ≤ number
  pub place : (d : ℕ) → IsPlace sheets number (p - 1) (number - get_or n.firsts.items (p - 1) d)

not_above : (number x : ℕ) → leb x number ≡ false → number < x
not_above number x e = grind (arith, nat_tests)

not_below : (number x : ℕ) → leb x number ≡ true → x ≤ number
not_below number x e = grind (arith, nat_tests)

-- the number is below the first number of the next job
before_end : (sheets : List Sheet) (n : Numbers) (number p : ℕ) → IsNumbered sheets n → number < n.tiles
    → IsPartitionPoint (λ (x : ℕ). leb x number ≡ true) (λ (x : ℕ). leb x number ≡ false) n.firsts.items p → number < tiles_before p sheets
before_end sheets n number p h lt parts = ⊎_elim
    (λ (a : p < length n.firsts.items).
    let e = h.firsts p 0 a in
    let g = not_above number (get_or n.firsts.items p 0) (parts.1 p 0 (omega arith) a) in omega (arith, e, g))
    (λ (a : length n.firsts.items ≤ p).
    let len = h.len in let t = h.tiles in let e = before_all sheets p (omega (arith, a, len)) in omega (arith, e, t, lt))
    (cases_lt p (length n.firsts.items))

pub found : (sheets : List Sheet) (n : Numbers) (number p : ℕ) → IsNumbered sheets n → number < n.tiles → p ≤ length n.firsts.items
    → IsPartitionPoint (λ (x : ℕ). leb x number ≡ true) (λ (x : ℕ). leb x number ≡ false) n.firsts.items p → Found sheets n number p
found sheets n number p h lt le parts =
    let len = h.len in
    let t = h.tiles in
    let next = before_end sheets n number p h lt parts in
    let some : 0 < p = ⊎_elim (λ (a : 0 < p). a)
    (λ (a : p ≤ 0). absurd (let z : tiles_before p sheets ≡ 0 = ap (λ (i : ℕ). tiles_before i sheets) (zero_of p a) in omega (arith, z, next)))
    (cases_lt 0 p) in
    let low : (d : ℕ) → get_or n.firsts.items (p - 1) d ≤ number =
    λ d. not_below number (get_or n.firsts.items (p - 1) d) (parts.0 (p - 1) d (omega arith) (omega (arith, some))) in
    record {
      some = some;
      low = low;
      place = λ d.
          let is = h.firsts (p - 1) d (omega (arith, some, le)) in
          let u = low d in
          let b = before_next sheets (p - 1) (omega (arith, some, le, len)) in
          let c : tiles_before (p - 1 + 1) sheets ≡ tiles_before p sheets = ap (λ (i : ℕ). tiles_before i sheets) (back p some) in
          record { below = omega (arith, is, u, b, c, next); sum = omega (arith, is, u) };
    }
  where
    zero_of : (p : ℕ) → p ≤ 0 → p ≡ 0
    zero_of p a = omega arith

    back : (p : ℕ) → 0 < p → p - 1 + 1 ≡ p
    back p a = omega arith

-- the same of a list that the partition point was looked for in
pub found_in : (xs : List ℕ) (sheets : List Sheet) (n : Numbers) (number p : ℕ) → xs ≡ n.firsts.items → IsNumbered sheets n → number < n.tiles → p ≤ length xs
    → (IsPartitionedBy (λ (x : ℕ). leb x number) xs → IsPartitionPoint (λ (x : ℕ). leb x number ≡ true) (λ (x : ℕ). leb x number ≡ false) xs p)
    → Found sheets n number p
found_in xs sheets n number p is h lt le point =
    let Q : List ℕ → Type 0 = λ (l : List ℕ). IsPartitionPoint (λ (x : ℕ). leb x number ≡ true) (λ (x : ℕ). leb x number ≡ false) l p in
    let parted = subst (IsPartitionedBy (λ (x : ℕ). leb x number)) (sym is) (firsts_parted sheets n number h) in
    found sheets n number p h lt (subst (λ (l : List ℕ). p ≤ length l) is le) (subst Q is (point parted))
