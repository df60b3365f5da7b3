-- A binary search finds a row by a key.
use Rattle.std.proofs.Common.{◌≡◌, ◌≢◌, ℕ, ◌<◌, Ok, Err, List, length, get_or, sym, inl, inr, ap, arith}
use Rattle.std.specs.Ordering.{nat_cmp, ordering_index}
use Rattle.std.specs.List.{All, AllPairs, Contains}
use Rattle.std.specs.List.Sorted.{IsBinarySearchResult, IsNonDecreasingBy}
use Rattle.std.proofs.lemmas.Bool.{cases_lt}
use Rattle.std.proofs.lemmas.Bool.Decides.{nat_tests}
use Rattle.std.proofs.lemmas.Cmp.{ranked}
use Rattle.std.proofs.lemmas.List.{get_or_default}
use Rattle.std.proofs.lemmas.List.Sorted.{IsNonDecreasingBy-from_default}
use Rattle.dpl_stars.specs.declared.list.Star.{Star}
use Rattle.dpl_stars.specs.Stars.{own_row}

pub pieces-rise : (rows : List Star) → AllPairs (λ a b. a.piece < b.piece) rows → IsNonDecreasingBy (λ r. r.piece) rows
pieces-rise rows rising i j d le within = elim (cases_lt i j) [
  | inl l ↦ (let r = rising i j d l within in omega arith)
  | inr l ↦ (let same : i ≡ j = omega arith in let e = ap (λ k. (get_or rows k d).piece) same in omega arith)
]

module _ (key : Star → ℕ) (rows : List Star) (rise : IsNonDecreasingBy key rows) (value : ℕ) where
  answers-rise : IsNonDecreasingBy (λ r. ordering_index (nat_cmp (key r) value)) rows
  answers-rise = IsNonDecreasingBy-from_default (λ r. ordering_index (nat_cmp (key r) value)) rows (own_row 0) (λ i j le within.
      let up = rise i j (own_row 0) le within in
      grind (arith, nat_tests))

  pub found-row : (k : ℕ) (d : Star) → k < length rows → IsBinarySearchResult (λ r. nat_cmp (key r) value) rows (Ok k)
      → Contains rows (get_or rows k d) × (key (get_or rows k d) ≡ value)
  found-row k d within equal = (
    (k, within, get_or_default rows k (get_or rows k d) d within),
    ranked _ value _ (sym (equal d)),
  )

  pub absent-row : (k : ℕ) → IsBinarySearchResult (λ r. nat_cmp (key r) value) rows (Err k) → All (λ r. key r ≢ value) rows
  absent-row k parted i d within is = elim (cases_lt i k) [
    | inl l ↦ (let below : key (get_or rows i d) < value = ranked _ value _ (sym ((parted answers-rise).0 i d (omega arith) l)) in omega arith)
    | inr l ↦ (let above : value < key (get_or rows i d) = ranked _ value _ (sym ((parted answers-rise).1 i d l within)) in omega arith)
  ]
